-- Elements that are sound make an identifier that holds them, and no other; and what holds elements was made of sound ones.
use mathlib.Core.Path.{◌≡◌, refl, sym, ap, ap₂, subst, ◌∙◌}
use Prim.Native.Nat.{ℕ, ◌≤◌}
use native.Mathlib.Omega.{arith}
use mathlib.Core.Bool.{Bool, true, false, not, ◌&&◌}
use mathlib.Core.List.{List, [], ◌∷◌, ◌++◌, append-nil}
use lib.Dec.{eqb}
use borrow.Author.Tests.{ne_eqb, eqb-true, eqb-false}
use Rattle.format.specs.Bytes.{is_empty, word}
use Rattle.format.specs.Elements.{parts_of, ordinal_of, form, value}
use Rattle.format.proofs.Tests.{and_l, and_r, and_i}
use Rattle.words.proofs.Cases.{decide}
use Rattle.identifier.specs.Parts.{dot, dotless, dotted}
use Rattle.identifier.specs.SetDigits.{set_part}
use Rattle.identifier.specs.Elements.{three, Elements, good_elements, parts_for, identifier_of}
use Rattle.identifier.specs.Meaning.{item, isil as led, none, set, SetPart, Holds, holds}
use Rattle.identifier.specs.Demands.{Sound, Made}
use Rattle.identifier.proofs.Sets.{set-total, set-form, set-written, written-set, form-four, four-form}
use Rattle.identifier.proofs.Holding.{isil-some, behind-isil, holds-alone, holds-set, holds-isil, holds-both}

-- ---- the test, and what it says

pub good-sound : (e : Elements) → good_elements e ≡ true → Sound e
unfolding good_elements
good-sound e g =
    let a : Bool = form 1 e.item in
    let b : Bool = dotless e.item in
    let c : Bool = value 3 e.isil in
    let d : Bool = form 4 e.set in
    let abc = and_l (a && b && c) d g in
    let ab = and_l (a && b) c abc in
    record { item = record { formed = and_l a b ab; whole = and_r a b ab }; isil = and_r (a && b) c abc; set = and_r (a && b && c) d g }

pub sound-good : (e : Elements) → Sound e → good_elements e ≡ true
unfolding good_elements
sound-good e s = and_i (and_i (and_i s.item.formed s.item.whole) s.isil) s.set

-- ---- the identifier of elements

-- with an ISIL and without, with set information and without
module _ (x : List ℕ) where
  made-alone : (b : List ℕ) → parts_of b ≡ 0 → identifier_of (three x [] b) ≡ x
  unfolding parts_for dotted
  made-alone b z = rw z refl

  made-set : (b : List ℕ) → eqb (parts_of b) 0 ≡ false → identifier_of (three x [] b) ≡ x ++ (dot ∷ set_part (parts_of b) (ordinal_of b))
  unfolding parts_for dotted
  made-set b n = rw n refl

  made-isil : (i b : List ℕ) → is_empty i ≡ false → parts_of b ≡ 0 → identifier_of (three x i b) ≡ i ++ (dot ∷ x)
  unfolding parts_for dotted
  made-isil i b f z = rw (f, z) refl

  made-both : (i b : List ℕ) → is_empty i ≡ false → eqb (parts_of b) 0 ≡ false → identifier_of (three x i b) ≡ i ++ (dot ∷ (x ++ (dot ∷ set_part (parts_of b) (ordinal_of b))))
  unfolding parts_for dotted
  made-both i b f n = rw (f, n) refl

zeros-parts : parts_of (0 ∷ 0 ∷ 0 ∷ 0 ∷ []) ≡ 0
unfolding word
zeros-parts = refl

some-parts : {p e : List ℕ} → SetPart p e → eqb (parts_of e) 0 ≡ false
some-parts {p} {e} sp = ne_eqb (parts_of e) 0 (λ z. omega (arith, z, (set-total sp).0))

-- ---- what holds elements

-- they are sound
pub holds-sound : {leads : Bool} {s : List ℕ} {e : Elements} → Holds leads s e → Sound e
unfolding value
holds-sound (holds item it none) = record { item = it; isil = refl; set = four-form 0 0 (omega arith) (omega arith) }
holds-sound (holds item it (set sp)) = record { item = it; isil = refl; set = set-form sp }
holds-sound (holds (led {i} f) it none) = record { item = it; isil = rw (isil-some i f) f; set = four-form 0 0 (omega arith) (omega arith) }
holds-sound (holds (led {i} f) it (set sp)) = record { item = it; isil = rw (isil-some i f) f; set = set-form sp }

-- an ISIL leads exactly where there is one
pub holds-leads : {leads : Bool} {s : List ℕ} {e : Elements} → Holds leads s e → not (is_empty e.isil) ≡ leads
holds-leads (holds item it h) = refl
holds-leads (holds (led {i} f) it h) = rw (isil-some i f) refl

-- and it is the identifier of them
pub holds-made : {leads : Bool} {s : List ℕ} {e : Elements} → Holds leads s e → identifier_of e ≡ s
holds-made (holds {x} item it none) = made-alone x (0 ∷ 0 ∷ 0 ∷ 0 ∷ []) zeros-parts ∙ sym (append-nil x)
holds-made (holds {x} item it (set {p} {e} sp)) = made-set x e (some-parts sp) ∙ ap (λ (q : List ℕ). x ++ (dot ∷ q)) (set-written sp)
holds-made (holds {x} (led {i} f) it none) =
    made-isil x i (0 ∷ 0 ∷ 0 ∷ 0 ∷ []) (isil-some i f) zeros-parts ∙ ap (λ (q : List ℕ). i ++ (dot ∷ q)) (sym (append-nil x)) ∙ sym (behind-isil i (x ++ []))
holds-made (holds {x} (led {i} f) it (set {p} {e} sp)) =
    made-both x i e (isil-some i f) (some-parts sp) ∙ ap (λ (q : List ℕ). i ++ (dot ∷ (x ++ (dot ∷ q)))) (set-written sp) ∙ sym (behind-isil i (x ++ (dot ∷ p)))

-- ---- what sound elements make

-- no total is no set information
no-set : (b : List ℕ) → form 4 b ≡ true → parts_of b ≡ 0 → 0 ∷ 0 ∷ 0 ∷ 0 ∷ [] ≡ b
no-set b f z =
    let four = form-four b f in
    let o : ordinal_of b ≡ 0 = omega (arith, z, four.ordinal) in
    sym (four.whole ∙ ap₂ (λ (t n : ℕ). t ∷ 0 ∷ n ∷ 0 ∷ []) z o)

made_of : (x i b : List ℕ) → Sound (three x i b) → Made (identifier_of (three x i b)) (three x i b)
unfolding value
made_of x [] b s =
    decide (eqb (parts_of b) 0)
    (λ t.
    let z = eqb-true (parts_of b) 0 t in
    let h = holds-alone x s.item.whole s.item.formed in
    subst (λ (r : List ℕ). Holds false r (three x [] b)) (sym (made-alone x b z)) (subst (λ (c : List ℕ). Holds false x (three x [] c)) (no-set b s.set z) h))
    (λ t.
    let l : 1 ≤ parts_of b = omega (arith, eqb-false (parts_of b) 0 t) in
    let h = holds-set x s.item.whole s.item.formed (set_part (parts_of b) (ordinal_of b)) b (written-set b s.set l) in
    subst (λ (r : List ℕ). Holds false r (three x [] b)) (sym (made-set x b t)) h)
made_of x (c ∷ j) b s =
    decide (eqb (parts_of b) 0)
    (λ t.
    let z = eqb-true (parts_of b) 0 t in
    let h = holds-isil x s.item.whole s.item.formed (c ∷ j) s.isil in
    subst (λ (r : List ℕ). Holds true r (three x (c ∷ j) b)) (sym (made-isil x (c ∷ j) b refl z))
    (subst (λ (d : List ℕ). Holds true ((c ∷ j) ++ (dot ∷ x)) (three x (c ∷ j) d)) (no-set b s.set z) h))
    (λ t.
    let l : 1 ≤ parts_of b = omega (arith, eqb-false (parts_of b) 0 t) in
    let h = holds-both x s.item.whole s.item.formed (c ∷ j) s.isil (set_part (parts_of b) (ordinal_of b)) b (written-set b s.set l) in
    subst (λ (r : List ℕ). Holds true r (three x (c ∷ j) b)) (sym (made-both x (c ∷ j) b refl t)) h)

pub sound-made : (e : Elements) → Sound e → Made (identifier_of e) e
sound-made e s = made_of e.item e.isil e.set s
