-- The words of a text as they come: how many at most, that `count` counts them all, and `Storing`, which the loop that stores them keeps.
use mathlib.Core.Path.{◌≡◌, refl, sym, ap, ◌∙◌}
use Prim.Native.Nat.{ℕ, ◌+◌, ◌≤◌, ◌<◌}
use native.Mathlib.Omega.{arith}
use mathlib.Core.Bool.{Bool, true, false}
use mathlib.Core.List.{List, [], ◌∷◌, ◌++◌, append_assoc, append-nil}
use lib.ListN.{length, set, length-append, length-set}
use Rattle.std.proofs.lemmas.Iterator.Consumers.{count_from_yields_List, YieldsList-from_first}
use Rattle.std.specs.Iterator.{Drains, YieldsFirst}
use Rattle.std.specs.Prelude.{if◌then◌else◌}
use Rattle.format.specs.Pieces.{Stored}
use Rattle.format.proofs.Pieces.{stored-none, stored-then, stored-as, stored-byte}
use Rattle.format.proofs.Strings.{nil-of}
use Rattle.encoding.specs.declared.Words.{Words}
use Rattle.words.specs.Code40.{value_of, outside, holding, packed, words_from, words_of}

-- ---- no more words than characters

few_packed : (run : List ℕ) → length (packed run) ≤ length run
unfolding packed
few_packed [] = omega arith
few_packed (a ∷ []) = omega arith
few_packed (a ∷ b ∷ []) = omega arith
few_packed (a ∷ b ∷ c ∷ run) = omega (arith, few_packed run)

few_from : (run s : List ℕ) → length (words_from run s) ≤ length run + length s
unfolding words_from
few_from run [] = omega (arith, few_packed run)
few_from run (c ∷ s) = go (outside c) (omega (arith, few_from [] s)) (few_from (run ++ (value_of c ∷ [])) s)
  where
    go : (t : Bool) → length (words_from [] s) ≤ length s → length (words_from (run ++ (value_of c ∷ [])) s) ≤ length (run ++ (value_of c ∷ [])) + length s
        → length (if◌then◌else◌ t (packed run ++ (holding c ∷ words_from [] s)) (words_from (run ++ (value_of c ∷ [])) s)) ≤ length run + length (c ∷ s)
    go true held more = omega (arith, length-append (packed run) (holding c ∷ words_from [] s), few_packed run)
    go false held more = omega (arith, length-append run (value_of c ∷ []))

pub few : (s : List ℕ) → length (words_of s) ≤ length s
few s = omega (arith, few_from [] s)

pub no-words : (s : List ℕ) → length s ≡ 0 → words_of s ≡ []
unfolding words_from packed
no-words s e = ap words_of (nil-of s e)

-- ---- counting

-- as many come as the text has
pub counted : (w : Words) (n : ℕ) → ((ws : List ℕ) × Drains (YieldsFirst (λ (v : Words). words_of v.text.now)) w ws × (n ≡ length ws)) → n ≡ length (words_of w.text.now)
counted w n ran = count_from_yields_List w n ran (YieldsList-from_first (λ v. v) (λ (v : Words). words_of v.text.now) _ refl)

-- ---- storing

-- the first n of the words are stored, and `left` are those that are left
pub record Storing (words before : List ℕ) (n : ℕ) (left after : List ℕ) : Type 0 where
  pub done : List ℕ
  pub kept : length after ≡ length before
  pub rest : done ++ left ≡ words
  pub stored : Stored before 0 done n after

pub storing-starts : (words before : List ℕ) → Storing words before 0 words before
storing-starts words before = record { done = []; kept = refl; rest = refl; stored = stored-none before 0 }

module _ {words before : List ℕ} {n word : ℕ} {left behind after : List ℕ} (p : Storing words before n left after) (e : left ≡ word ∷ behind)
    (room : length words ≤ length before) where
  -- the next word has its room
  pub storing-room : n < length after
  storing-room = omega (arith, p.kept, p.stored.0, ap length p.rest, length-append p.done left, ap length e)

  pub storing-on : Storing words before (n + 1) behind (set after n word)
  storing-on =
      record {
        done = p.done ++ (word ∷ []);
        kept = length-set after n word ∙ p.kept;
        rest = append_assoc p.done (word ∷ []) behind ∙ ap (λ (ws : List ℕ). p.done ++ ws) (sym e) ∙ p.rest;
        stored = stored-then before after _ p.done (word ∷ []) 0 n (n + 1) (omega arith) p.stored (stored-byte after n word storing-room);
      }

pub storing-ends : {words before : List ℕ} {n : ℕ} {left after : List ℕ} → Storing words before n left after → left ≡ [] → Stored before 0 words n after
storing-ends {words} {before} {n} {left} {after} p e =
    stored-as before after _ _ 0 n (sym (append-nil p.done) ∙ ap (λ (ws : List ℕ). p.done ++ ws) (sym e) ∙ p.rest) p.stored
