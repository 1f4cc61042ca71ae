-- Owners as the code tells them apart: by the first byte, and an ISIL by where its hyphen stands.
use mathlib.Core.Path.{◌≡◌, refl, ap}
use mathlib.Core.Logic.{◌⊎◌, inl, inr}
use Prim.Native.Nat.{ℕ, suc, ◌+◌, ◌-◌, ◌≤◌, ◌<◌}
use native.Mathlib.Omega.{arith}
use mathlib.Core.Bool.{true, false, ◌||◌}
use mathlib.Core.List.{List, [], ◌∷◌, ◌++◌}
use lib.Dec.{eqb, leb}
use lib.ListN.{length, drop, get_or}
use borrow.Author.Tests.{ne_eqb, le-leb, lt-leb, leb-true}
use Rattle.format.specs.Bytes.{is_empty, all, pad_with, up_to, past}
use Rattle.format.specs.Fields.{capital, isil, hyphen, blank, alternate, alternative, is_owner, packed, basic_owner}
use Rattle.format.proofs.Tests.{never, and-iff, and_r, if-inv}
use Rattle.format.proofs.Fields.{capital-ge, isil-facts, isil-whole}
use Rattle.image.specs.Laying.{OwnerOrNone}

-- an ISIL by its prefix: one capital, two, or more
pub data Prefixed : List ℕ → Type 0 where
  one : {a : ℕ} {u : List ℕ} → 65 ≤ a → 1 ≤ length u → Prefixed (a ∷ hyphen ∷ u)
  two : {a b : ℕ} {u : List ℕ} → 65 ≤ a → 65 ≤ b → 1 ≤ length u → Prefixed (a ∷ b ∷ hyphen ∷ u)
  more : {a b c : ℕ} {s : List ℕ} → 65 ≤ a → 65 ≤ b → 65 ≤ c → Prefixed (a ∷ b ∷ c ∷ s)

sided : (p u : List ℕ) → 1 ≤ length p → all capital p ≡ true → 1 ≤ length u → Prefixed (p ++ hyphen ∷ u)
unfolding all
sided [] u l c k = absurd (omega arith)
sided (a ∷ []) u l c k = let h = simp and-iff at c in one (capital-ge a h.0) k
sided (a ∷ b ∷ []) u l c k = let h = simp and-iff at c in two (capital-ge a h.0) (capital-ge b h.1.0) k
sided (a ∷ b ∷ d ∷ p) u l c k = let h = simp and-iff at c in more (capital-ge a h.0) (capital-ge b h.1.0) (capital-ge d h.1.1.0)

prefixed : (o : List ℕ) → isil o ≡ true → Prefixed o
unfolding isil
prefixed o e =
    let f = isil-facts (up_to hyphen o) (past hyphen o) e in
    rw (isil-whole o e) (sided (up_to hyphen o) (past hyphen o) f.some f.capitals f.unit-some)

pub prefixed-facts : {o : List ℕ} → Prefixed o → (3 ≤ length o) × (65 ≤ get_or o 0 0)
prefixed-facts (one a u) = (omega arith, a)
prefixed-facts (two a b u) = (omega arith, a)
prefixed-facts (more a b c) = (omega arith, a)

-- ---- the first byte tells which owner it is

cases : (o : List ℕ) → OwnerOrNone o → (o ≡ []) ⊎ ((alternate o ≡ true) ⊎ Prefixed o)
unfolding is_owner
cases o g = elim g.kind [
  | inl e ↦ inl e
  | inr e ↦ elim (if-inv (alternate o) (alternative o) (isil o) e) [ inl h ↦ inr (inl h.0) | inr h ↦ inr (inr (prefixed o h.1)) ]
]

pub low-alternate : (o : List ℕ) → OwnerOrNone o → (length o ≡ 0 → ⊥) → get_or o 0 0 < 4 → alternate o ≡ true
low-alternate o g n h = elim (cases o g) [
  | inl e ↦ absurd (n (ap length e))
  | inr (inl a) ↦ a
  | inr (inr i) ↦ absurd (omega (arith, (prefixed-facts i).1))
]

pub high-isil : (o : List ℕ) → OwnerOrNone o → 4 ≤ get_or o 0 0 → Prefixed o
high-isil o g h = elim (cases o g) [
  | inl e ↦ absurd (omega (arith, ap (λ (x : List ℕ). get_or x 0 0) e))
  | inr (inl a) ↦ absurd (omega (arith, leb-true (get_or o 0 0) 3 (and_r (leb 2 (get_or o 0 0)) (leb (get_or o 0 0) 3) a)))
  | inr (inr i) ↦ i
]

-- ---- what a basic form takes

-- an alternative owner comes behind two 00
pub alternate-packed : (o : List ℕ) → alternate o ≡ true → packed o ≡ 0 ∷ 0 ∷ o
unfolding packed
alternate-packed o a = rw a

pub alternate-basic : (w : ℕ) (o : List ℕ) → alternate o ≡ true → is_empty o || basic_owner w o ≡ leb (length o + 2) w
unfolding basic_owner packed
alternate-basic w [] a = never (cc)
alternate-basic w (x ∷ o) a = let e : suc (suc (suc (length o))) ≡ suc (length o) + 2 = omega arith in rw a (ap (λ (n : ℕ). leb n w) e)

high : (x : ℕ) (s : List ℕ) → 65 ≤ x → alternate (x ∷ s) ≡ false
high x s h = rw (le-leb 2 x (omega arith), lt-leb x 3 (omega arith))

other : (x : ℕ) → 65 ≤ x → eqb x hyphen ≡ false
other x h = ne_eqb x hyphen (omega arith)

-- a prefix of one capital: the hyphen gives way to a blank
pub record One (o : List ℕ) : Type 0 where
  pub packs : packed o ≡ get_or o 0 0 ∷ blank ∷ drop 2 o
  pub basic : (w : ℕ) → is_empty o || basic_owner w o ≡ leb (length o) w

pub one-capital : {o : List ℕ} → Prefixed o → get_or o 1 0 ≡ hyphen → One o
unfolding packed basic_owner up_to past pad_with
one-capital (one {a} {u} ha hu) e =
    record { packs = rw (high a (hyphen ∷ u) ha, other a ha); basic = λ w. rw (high a (hyphen ∷ u) ha, other a ha) }
one-capital (two {a} {b} {u} ha hb hu) e = absurd (omega arith)
one-capital (more {a} {b} {c} {s} ha hb hc) e = absurd (omega arith)

-- of two: it is left out
pub record Two (o : List ℕ) : Type 0 where
  pub packs : packed o ≡ get_or o 0 0 ∷ get_or o 1 0 ∷ drop 3 o
  pub basic : (w : ℕ) → is_empty o || basic_owner w o ≡ leb (length o - 1) w

pub two-capitals : {o : List ℕ} → Prefixed o → (get_or o 1 0 ≡ hyphen → ⊥) → get_or o 2 0 ≡ hyphen → Two o
unfolding packed basic_owner up_to past pad_with
two-capitals (one {a} {u} ha hu) n e = absurd (n refl)
two-capitals (two {a} {b} {u} ha hb hu) n e =
    let l : suc (suc (length u)) ≡ suc (suc (suc (length u))) - 1 = omega arith in
    record {
      packs = rw (high a (b ∷ hyphen ∷ u) ha, other a ha, other b hb);
      basic = λ w. rw (high a (b ∷ hyphen ∷ u) ha, other a ha, other b hb) (ap (λ (n : ℕ). leb n w) l);
    }
two-capitals (more {a} {b} {c} {s} ha hb hc) n e = absurd (omega arith)

-- of more: no basic form holds it
pub more-capitals : {o : List ℕ} (w : ℕ) → Prefixed o → (get_or o 1 0 ≡ hyphen → ⊥) → (get_or o 2 0 ≡ hyphen → ⊥) → is_empty o || basic_owner w o ≡ false
unfolding packed basic_owner up_to past pad_with
more-capitals w (one {a} {u} ha hu) n m = absurd (n refl)
more-capitals w (two {a} {b} {u} ha hb hu) n m = absurd (m refl)
more-capitals w (more {a} {b} {c} {s} ha hb hc) n m = rw (high a (b ∷ c ∷ s) ha, other a ha, other b hb, other c hc) (rw (lt-leb (suc (suc (suc (length (up_to hyphen s))))) 2 (omega arith)))

-- ---- an owner that a field of w bytes holds

pub held-short : (w : ℕ) (o : List ℕ) → basic_owner w o ≡ true → length (packed o) ≤ w
unfolding basic_owner
held-short w o e = leb-true (length (packed o)) w (and_r (alternate o || leb (length (up_to hyphen o)) 2) _ e)

-- its prefix is two capitals if it is not one
pub held_two : {o : List ℕ} (w : ℕ) → Prefixed o → (get_or o 1 0 ≡ hyphen → ⊥) → basic_owner w o ≡ true → Two o
held_two w (one ha hu) n h = absurd (n refl)
held_two w (two ha hb hu) n h = two-capitals (two ha hb hu) n refl
held_two w (more {a} {b} {c} {s} ha hb hc) n h = never (cc (more-capitals w (more {a = a} {b = b} {c = c} {s = s} ha hb hc) n (λ e. omega arith)))
