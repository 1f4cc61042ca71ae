-- What is written reads back: words that the house rule lays for a text of bytes 00 to 7F say that text.
use mathlib.Core.Path.{◌≡◌, refl}
use Prim.Native.Nat.{ℕ, ◌≤◌}
use native.Mathlib.Omega.{arith}
use mathlib.Core.Bool.{true}
use mathlib.Core.List.{List, ◌∷◌}
use lib.ListN.{length}
use borrow.Author.Tests.{le-leb, leb-true}
use Rattle.format.specs.Bytes.{all}
use Rattle.format.proofs.Tests.{and_l, and_r, and_i, all_append}
use Rattle.words.specs.Code40.{is646}
use Rattle.words.specs.Meaning.{Means, Says, word, Laid, nothing, three, two, one, held}
use Rattle.words.proofs.Values.{one-of-39-low}

others : (c : ℕ) (s : List ℕ) → all is646 (c ∷ s) ≡ true → all is646 s ≡ true
unfolding all
others c s e = and_r (is646 c) (all is646 s) e

pub laid-says : {s ws : List ℕ} → all is646 s ≡ true → Laid s ws → Says ws s
unfolding all
laid-says e nothing = nothing
laid-says e (three {a} {b} {c} {s} oa ob oc l) = word (three oa ob oc) (laid-says (others c s (others b (c ∷ s) (others a (b ∷ c ∷ s) e))) l)
laid-says e (two {a} {b} {s} oa ob h l) = word (two oa ob) (laid-says (others b s (others a (b ∷ s) e)) l)
laid-says e (one {a} {s} oa h l) = word (one oa) (laid-says (others a s e) l)
laid-says e (held {c} {s} o l) = word (held (leb-true c 0x7F (and_l (is646 c) (all is646 s) e))) (laid-says (others c s e) l)

-- what words say has no character above 7F, so it can be written again
means-low : {w : ℕ} {p : List ℕ} → Means w p → all is646 p ≡ true
unfolding all
means-low (three {a} {b} {c} oa ob oc) = and_i (one-of-39-low a oa) (and_i (one-of-39-low b ob) (and_i (one-of-39-low c oc) refl))
means-low (two {a} {b} oa ob) = and_i (one-of-39-low a oa) (and_i (one-of-39-low b ob) refl)
means-low (one {a} oa) = and_i (one-of-39-low a oa) refl
means-low (held {c} h) = and_i (le-leb c 0x7F h) refl

pub says-low : {ws s : List ℕ} → Says ws s → all is646 s ≡ true
unfolding all
says-low nothing = refl
says-low (word {w} {p} {ws} {s} m r) = all_append is646 p s (means-low m) (says-low r)

-- no more words than characters
pub laid-few : {s ws : List ℕ} → Laid s ws → length ws ≤ length s
laid-few nothing = omega arith
laid-few (three oa ob oc l) = omega (arith, laid-few l)
laid-few (two oa ob h l) = omega (arith, laid-few l)
laid-few (one oa h l) = omega (arith, laid-few l)
laid-few (held o l) = omega (arith, laid-few l)
