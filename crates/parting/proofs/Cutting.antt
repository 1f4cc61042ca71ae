-- Where the identifier stands, by what the code finds: no dot, one or two from its beginning on.
use mathlib.Core.Path.{◌≡◌, refl, sym, ap, ap₂, subst, ◌∙◌}
use Prim.Native.Nat.{ℕ, ◌+◌, ◌-◌, ◌≤◌, ◌<◌}
use native.Mathlib.Omega.{arith}
use mathlib.Core.Bool.{Bool, true, false}
use mathlib.Core.List.{List, [], ◌∷◌}
use lib.ListN.{length, take, drop, length-drop}
use lib.Seq.{drop-drop}
use lib.Dec.{leb}
use borrow.Author.Tests.{le-leb, lt-leb, leb-true, leb-false}
use Rattle.format.specs.Answers.{plain, got, refused, Step, need, in_order}
use Rattle.format.specs.Bytes.{up_to, between}
use Rattle.format.proofs.Answers.{refused-inj, need-ok, next-ok, next-no, next-inv, none-ok, worked}
use Rattle.format.proofs.Strings.{up-to-length}
use Rattle.format.proofs.Tests.{never, same_truth}
use Rattle.format.proofs.Text.{between-facts, between-i}
use Rattle.fields.proofs.Places.{up-to-take, past-drop}
use Rattle.words.proofs.Cases.{decide}
use Rattle.identifier.specs.Parts.{dot, parts}
use Rattle.identifier.specs.Elements.{right_count}
use Rattle.identifier.proofs.Splitting.{parts-some}
use Rattle.parting.specs.declared.places.Cut.{Cut}
use Rattle.parting.specs.Places.{isil_in, rest_in, cut_from, cut_in}
use Rattle.parting.proofs.Finding.{count-last, count-more}

abbrev place : ℕ → ℕ → ℕ → Cut
place isil item end = record { isil = isil; item = item; end = end }

-- ---- from the identifier's beginning on

module _ (s : List ℕ) (isil at end : ℕ) (inside : at ≤ length s) (first : end ≡ at + length (up_to dot (drop at s))) where
  abbrev rest : List ℕ
  rest = drop at s

  found : leb (length (parts rest)) 2 ≡ true → got (place isil at end) ≡ cut_from s isil at
  unfolding cut_from
  found e = ap (λ (n : ℕ). got (place isil at n)) first ∙ sym (next-ok 22 (leb (length (parts rest)) 2) [] _ e ∙ none-ok _)

  pub cut-alone : length s ≤ end → got (place isil at end) ≡ cut_from s isil at
  cut-alone h = found (le-leb (length (parts rest)) 2 (omega (arith, count-last rest (omega (arith, length-drop at s)))))

  module _ (next : ℕ) (more : end < length s) (second : next ≡ end + 1 + length (up_to dot (drop (end + 1) s))) where
    behind : drop (length (up_to dot rest) + 1) rest ≡ drop (end + 1) s
    behind =
        let n : at + (length (up_to dot rest) + 1) ≡ end + 1 = omega arith in
        drop-drop (length (up_to dot rest) + 1) at s ∙ ap (λ (k : ℕ). drop k s) n

    one_more : length (parts rest) ≡ 1 + length (parts (drop (end + 1) s))
    one_more = count-more rest (omega (arith, length-drop at s)) ∙ ap (λ (l : List ℕ). 1 + length (parts l)) behind

    pub cut-one : length s ≤ next → got (place isil at end) ≡ cut_from s isil at
    cut-one h = found (le-leb (length (parts rest)) 2 (omega (arith, one_more, count-last (drop (end + 1) s) (omega (arith, length-drop (end + 1) s)))))

    pub cut-two : next < length s → refused (plain 22) ≡ cut_from s isil at
    unfolding cut_from
    cut-two h =
        let p : List ℕ = drop (end + 1) s in
        let two = count-more p (omega (arith, length-drop (end + 1) s)) in
        sym (next-no 22 (leb (length (parts rest)) 2) [] _ (lt-leb (length (parts rest)) 2 (omega (arith, one_more, two, parts-some (drop (length (up_to dot p) + 1) p)))))

-- ---- in the whole text

-- n and m parts, m of them from the identifier on
right_of : (n m k : ℕ) → k ≡ n + m → 0 < m → between (n + 1) (n + 2) k ≡ leb m 2
right_of n m k e h =
    same_truth (between (n + 1) (n + 2) k) (leb m 2)
    (λ t. le-leb m 2 (omega (arith, between-facts (n + 1) (n + 2) k t)))
    (λ t. between-i {low = n + 1} {high = n + 2} {b = k} (omega arith) (omega (arith, leb-true m 2 t)))

-- without an ISIL it begins the text
pub cut-whole : (s : List ℕ) → cut_from s 0 0 ≡ cut_in false s
unfolding cut_from cut_in right_count
cut-whole s = ap (λ (b : Bool). in_order (need 22 b ∷ []) (place 0 0 (0 + length (up_to dot s)))) (sym (right_of 0 (length (parts s)) (length (parts s)) (omega arith) (parts-some s)))

-- with one, behind the first dot
pub cut-led : (s : List ℕ) (first : ℕ) → first ≡ 0 + length (up_to dot s) → (first ≡ length s → ⊥) → cut_from s first (first + 1) ≡ cut_in true s
unfolding cut_from cut_in right_count
cut-led s first e h =
    let n : first ≡ length (up_to dot s) = omega arith in
    let less : length (up_to dot s) < length s = omega (arith, up-to-length dot s) in
    let m : ℕ = length (parts (drop (first + 1) s)) in
    let count : length (parts s) ≡ 1 + m = count-more s less ∙ ap (λ (k : ℕ). 1 + length (parts (drop (k + 1) s))) (sym n) in
    ap₂ (λ (b : Bool) (k : ℕ). in_order (need 22 b ∷ []) (place k (k + 1) (k + 1 + length (up_to dot (drop (k + 1) s)))))
    (sym (right_of 1 m (length (parts s)) count (parts-some (drop (first + 1) s)))) n

pub cut-none : (s : List ℕ) (first : ℕ) → first ≡ 0 + length (up_to dot s) → first ≡ length s → refused (plain 22) ≡ cut_in true s
unfolding cut_in right_count
cut-none s first e h =
    let one = count-last s (omega arith) in
    sym (next-no 22 (between 2 3 (length (parts s))) [] _ (ap (between 2 3) one))

-- ---- what stands at the places found

-- no dot before the first, so the ISIL and the identifier are what stands there
pub record Standing (leads : Bool) (s : List ℕ) (c : Cut) : Type 0 where
  pub counted : need 22 (right_count leads (parts s)) ≡ got tt
  pub led : c.isil ≤ length s
  pub inside : c.item ≤ length s
  pub ordered : c.item ≤ c.end
  pub ended : c.end ≤ length s
  pub isil : take c.isil s ≡ isil_in leads s
  pub name : take (c.end - c.item) (drop c.item s) ≡ up_to dot (rest_in leads s)
  pub behind : drop c.end s ≡ drop (length (up_to dot (rest_in leads s))) (rest_in leads s)

-- of an identifier that begins at a place, where the rest begins
stands_at_lem : (leads : Bool) (s : List ℕ) (n at : ℕ) → need 22 (right_count leads (parts s)) ≡ got tt → at ≤ length s → n ≤ length s → take n s ≡ isil_in leads s → drop at s ≡ rest_in leads s
    → Standing leads s (place n at (at + length (up_to dot (drop at s))))
stands_at_lem leads s n at counted inside led isil rest =
    let k : ℕ = length (up_to dot (drop at s)) in
    let long : at + k - at ≡ k = omega arith in
    record {
      counted = counted;
      led = led;
      inside = inside;
      ordered = omega arith;
      ended = omega (arith, up-to-length dot (drop at s), length-drop at s);
      isil = isil;
      name = ap (λ (m : ℕ). take m (drop at s)) long ∙ sym (up-to-take dot (drop at s)) ∙ ap (up_to dot) rest;
      behind = sym (drop-drop k at s) ∙ ap (λ (l : List ℕ). drop (length (up_to dot l)) l) rest;
    }

one-part : (s : List ℕ) → leb (length s) (length (up_to dot s)) ≡ true → right_count true (parts s) ≡ true → ⊥
unfolding right_count
one-part s l t = omega (arith, count-last s (leb-true (length s) (length (up_to dot s)) l), between-facts 2 3 (length (parts s)) t)

two-parts : (s : List ℕ) → right_count true (parts s) ≡ true → length (up_to dot s) < length s
two-parts s t = decide (leb (length s) (length (up_to dot s))) (λ l. absurd (one-part s l t)) (λ l. leb-false (length s) (length (up_to dot s)) l)

pub cut_stands : (leads : Bool) (s : List ℕ) (c : Cut) → cut_in leads s ≡ got c → Standing leads s c
unfolding cut_in
cut_stands false s c e =
    let r = next-inv 22 _ [] _ c e in
    subst (Standing false s) (worked [] _ c r.1).1 (stands_at_lem false s 0 0 (need-ok 22 _ r.0) (omega arith) (omega arith) refl refl)
cut_stands true s c e =
    let r = next-inv 22 _ [] _ c e in
    let n : ℕ = length (up_to dot s) in
    let less : n + 1 ≤ length s = omega (arith, two-parts s r.0) in
    subst (Standing true s) (worked [] _ c r.1).1 (stands_at_lem true s n (n + 1) (need-ok 22 _ r.0) less (omega arith) (sym (up-to-take dot s)) (sym (past-drop dot s)))

-- a refusal is that of the count
only_step : (st : Step) (a : Cut) (k : ℕ) → in_order (st ∷ []) a ≡ refused (plain k) → st ≡ refused (plain k)
unfolding in_order
only_step (got u) a k e = never (cc)
only_step (refused x) a k e = let z : x ≡ plain k = refused-inj e in ap refused z

pub cut-refused : (leads : Bool) (s : List ℕ) {k : ℕ} → cut_in leads s ≡ refused (plain k) → need 22 (right_count leads (parts s)) ≡ refused (plain k)
unfolding cut_in
cut-refused leads s {k} e = only_step (need 22 (right_count leads (parts s))) _ k e
