-- Laws of text: what the fields, the code points and the code ask of it. They hold of any rows; `rows` itself is opened only where a fact
-- about it is computed.
use Rattle.std.specs.Prelude.{if◌then◌else◌}
use mathlib.Core.Path.{◌≡◌, refl, ap, ◌∙◌}
use mathlib.Core.Logic.{◌⊎◌, inl, inr}
use Prim.Native.Nat.{ℕ, zero, suc, ◌≤◌, ◌<◌}
use native.Mathlib.Omega.{arith}
use mathlib.Core.Bool.{Bool, true, false, ◌&&◌}
use mathlib.Core.List.{List, [], ◌∷◌, ◌++◌}
use lib.Dec.{leb, ltb}
use lib.ListN.{take, drop}
use borrow.Author.Tests.{leb-true, leb-false, le-leb, lt-leb, ltb-true}
use Rattle.format.specs.Bytes.{all, between}
use Rattle.format.specs.Text.{Range, ◌to◌, inside, Row, ◌then◌, rows, nothing, after, rows_from, text}
use Rattle.format.proofs.Tests.{never, and_l, and_r, and_i, and_no, and_left}

-- ---- ranges

pub between-i : {low high b : ℕ} → low ≤ b → b ≤ high → between low high b ≡ true
between-i {low} {high} {b} l h = and_i (le-leb low b l) (le-leb b high h)

pub between-facts : (low high b : ℕ) → between low high b ≡ true → (low ≤ b) × (b ≤ high)
between-facts low high b e = (leb-true low b (and_l (leb low b) (leb b high) e), leb-true b high (and_r (leb low b) (leb b high) e))

pub between-over : (low high b : ℕ) → high < b → between low high b ≡ false
between-over low high b h = and_no (leb low b) (leb b high) (lt-leb b high h)

pub between-under : (low high b : ℕ) → b < low → between low high b ≡ false
between-under low high b h = and_left (leb low b) (leb b high) (lt-leb low b h)

pub between-no : (low high b : ℕ) → between low high b ≡ false → (b < low) ⊎ (high < b)
between-no low high b e = go (leb low b) refl e
  where
    go : (t : Bool) → leb low b ≡ t → t && leb b high ≡ false → (b < low) ⊎ (high < b)
    go true h k = inr (leb-false b high k)
    go false h k = inl (leb-false low b h)

-- ---- which row a byte leads

-- the row's lead bytes stand before b; from b on
abbrev before : ℕ → Row → Bool
before b ((low to high) then follow) = ltb high b

abbrev behind : ℕ → Row → Bool
behind b ((low to high) then follow) = leb b low

-- rows whose lead bytes stand before b are passed over
passed : (n b c : ℕ) (rs : List Row) → c ≤ b → all (before c) (take n rs) ≡ true → after b rs ≡ after b (drop n rs)
unfolding all after
passed zero b c rs h e = refl
passed (suc n) b c [] h e = refl
passed (suc n) b c (((low to high) then follow) ∷ rs) h e =
    let k : high < c = ltb-true high c (and_l (ltb high c) (all (before c) (take n rs)) e) in
    rw (between-over low high b (omega arith)) (passed n b c rs h (and_r (ltb high c) (all (before c) (take n rs)) e))

-- rows whose lead bytes stand behind b are none of its
unled : (b c : ℕ) (rs : List Row) → b < c → all (behind c) rs ≡ true → after b rs ≡ nothing
unfolding all after
unled b c [] h e = refl
unled b c (((low to high) then follow) ∷ rs) h e =
    let k : c ≤ low = leb-true c low (and_l (leb c low) (all (behind c) rs) e) in
    rw (between-under low high b (omega arith)) (unled b c rs h (and_r (leb c low) (all (behind c) rs) e))

-- b leads the row behind n others
pub leads : (n b : ℕ) {low high : ℕ} {follow : List Range} {rs : List Row} → drop n rows ≡ (low to high then follow) ∷ rs
    → all (before low) (take n rows) ≡ true → low ≤ b → b ≤ high → after b rows ≡ follow
unfolding after
leads n b {low} {high} {follow} {rs} is e l h = passed n b low rows l e ∙ ap (after b) is ∙ rw (between-i l h)

-- b leads none: n rows stand before c, the others from d on, and b between
pub leads-none : (n b c d : ℕ) → all (before c) (take n rows) ≡ true → all (behind d) (drop n rows) ≡ true → c ≤ b → b < d → after b rows ≡ nothing
leads-none n b c d e f l h = passed n b c rows l e ∙ unled b d (drop n rows) h f

-- ---- no byte is below 20

pub nothing-follows : (s : List ℕ) → rows_from nothing s ≡ false
unfolding rows_from
nothing-follows [] = refl
nothing-follows (b ∷ s) = and_left (between 0xFF 0 b) (rows_from [] s) (empty b)
  where
    empty : (b : ℕ) → between 0xFF 0 b ≡ false
    empty zero = refl
    empty (suc b) = between-over 0xFF 0 (suc b) (omega arith)

abbrev floor : Range → Bool
floor (low to high) = leb 0x20 low

abbrev row-floor : Row → Bool
row-floor (lead then follow) = floor lead && all floor follow

floor-inside : (r : Range) (b : ℕ) → floor r ≡ true → inside r b ≡ true → 0x20 ≤ b
floor-inside (low to high) b f e = omega (arith, leb-true 0x20 low f, (between-facts low high b e).0)

lead-floor : (b : ℕ) (s : List ℕ) (rs : List Row) → all row-floor rs ≡ true → rows_from (after b rs) s ≡ true
    → (0x20 ≤ b) × (all floor (after b rs) ≡ true)
unfolding all after
lead-floor b s [] f e = never (cc (nothing-follows s))
lead-floor b s ((r then follow) ∷ rs) f e = go (inside r b) refl e (lead-floor b s rs (and_r (floor r && all floor follow) (all row-floor rs) f))
  where
    here : floor r && all floor follow ≡ true
    here = and_l (floor r && all floor follow) (all row-floor rs) f

    go : (t : Bool) → inside r b ≡ t → rows_from (if t then follow else after b rs) s ≡ true
        → (rows_from (after b rs) s ≡ true → (0x20 ≤ b) × (all floor (after b rs) ≡ true))
        → (0x20 ≤ b) × (all floor (if t then follow else after b rs) ≡ true)
    go true i u ih = (floor-inside r b (and_l (floor r) (all floor follow) here) i, and_r (floor r) (all floor follow) here)
    go false i u ih = ih u

rows-floor : (due : List Range) (s : List ℕ) → all floor due ≡ true → rows_from due s ≡ true → all (leb 0x20) s ≡ true
unfolding all rows_from rows
rows-floor [] [] f e = refl
rows-floor [] (b ∷ s) f e =
    let h = lead-floor b s rows refl e in
    and_i (le-leb 0x20 b h.0) (rows-floor (after b rows) s h.1 e)
rows-floor (r ∷ due) [] f e = never (cc)
rows-floor (r ∷ due) (b ∷ s) f e =
    and_i (le-leb 0x20 b (floor-inside r b (and_l (floor r) (all floor due) f) (and_l (inside r b) (rows_from due s) e)))
    (rows-floor due s (and_r (floor r) (all floor due) f) (and_r (inside r b) (rows_from due s) e))

pub text-floor : (s : List ℕ) → text s ≡ true → all (leb 0x20) s ≡ true
unfolding text all
text-floor s e = rows-floor [] s refl e

-- ---- joined

rows_append : (due : List Range) (s t : List ℕ) → rows_from due s ≡ true → rows_from [] t ≡ true → rows_from due (s ++ t) ≡ true
unfolding rows_from
rows_append [] [] t e f = f
rows_append [] (b ∷ s) t e f = rows_append (after b rows) s t e f
rows_append (r ∷ due) [] t e f = never (cc)
rows_append (r ∷ due) (b ∷ s) t e f = and_i (and_l (inside r b) (rows_from due s) e) (rows_append due s t (and_r (inside r b) (rows_from due s) e) f)

pub text-append : (s t : List ℕ) → text s ≡ true → text t ≡ true → text (s ++ t) ≡ true
unfolding text
text-append s t e f = rows_append [] s t e f

-- ---- the bytes 20 to 7E

-- such a byte leads nothing
after-plain : (b : ℕ) → between 0x20 0x7E b ≡ true → after b rows ≡ []
unfolding rows after
after-plain b e = ap (λ (c : Bool). if c then [] else after b (drop 1 rows)) e

pub text-plain : (s : List ℕ) → all (between 0x20 0x7E) s ≡ true → text s ≡ true
unfolding text all rows_from
text-plain [] e = refl
text-plain (b ∷ s) e =
    ap (λ (due : List Range). rows_from due s) (after-plain b (and_l (between 0x20 0x7E b) (all (between 0x20 0x7E) s) e))
    ∙ text-plain s (and_r (between 0x20 0x7E b) (all (between 0x20 0x7E) s) e)
