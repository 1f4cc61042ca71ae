-- Where code finds the parts of an identifier, there they are.
use Rattle.std.specs.Prelude.{if◌then◌else◌}
use mathlib.Core.Path.{◌≡◌, refl, sym, ap, ◌∙◌}
use Prim.Native.Nat.{ℕ, ◌+◌, ◌≤◌, ◌<◌}
use native.Mathlib.Omega.{arith}
use mathlib.Core.Bool.{Bool, true, false}
use mathlib.Core.List.{List, [], ◌∷◌}
use lib.ListN.{length, drop, get_or, drop_of_length-le}
use lib.Seq.{drop-drop}
use lib.Dec.{eqb}
use Rattle.format.specs.Bytes.{up_to, past}
use Rattle.format.proofs.Strings.{rest-opened}
use Rattle.format.proofs.Text.{between-facts}
use Rattle.fields.proofs.Places.{past-drop}
use Rattle.identifier.specs.Parts.{dot, on_first, parts, dotted}
use Rattle.identifier.specs.Elements.{before, right_count, isil_part, item_part, set_place}
use Rattle.identifier.proofs.Splitting.{parts-some, dotted-parts}
use Rattle.parting.specs.Places.{isil_in, rest_in, place_in}

-- ---- the first part, and those behind it

first-longer : (c : ℕ) (s p : List ℕ) → parts s ≡ p ∷ drop 1 (parts s) → on_first c (parts s) ≡ (c ∷ p) ∷ drop 1 (parts s)
unfolding on_first
first-longer c s p e = ap (on_first c) e

-- there is a first part: what stands before the first dot
pub first_part : (s : List ℕ) → parts s ≡ up_to dot s ∷ drop 1 (parts s)
unfolding parts up_to
first_part [] = refl
first_part (c ∷ s) = go (eqb c dot) (first_part s)
  where
    go : (t : Bool) → parts s ≡ up_to dot s ∷ drop 1 (parts s)
        → (if t then [] ∷ parts s else on_first c (parts s))
        ≡ (if t then [] else c ∷ up_to dot s) ∷ drop 1 (if t then [] ∷ parts s else on_first c (parts s))
    go true e = refl
    go false e = let l = first-longer c s (up_to dot s) e in l ∙ ap (λ (ps : List (List ℕ)). (c ∷ up_to dot s) ∷ drop 1 ps) (sym l)

-- the parts of what stands behind the first: a dot and more, or nothing
unfoldable parts_behind : List ℕ → List (List ℕ)
parts_behind [] = []
parts_behind (c ∷ r) = parts r

parts-behind : (s : List ℕ) → drop 1 (parts s) ≡ parts_behind (drop (length (up_to dot s)) s)
unfolding parts up_to parts_behind
parts-behind [] = refl
parts-behind (c ∷ s) = go (eqb c dot) (parts-behind s)
  where
    go : (t : Bool) → drop 1 (parts s) ≡ parts_behind (drop (length (up_to dot s)) s)
        → drop 1 (if t then [] ∷ parts s else on_first c (parts s)) ≡ parts_behind (drop (length (if t then [] else c ∷ up_to dot s)) (c ∷ s))
    go true e = refl
    go false e = ap (drop 1) (first-longer c s (up_to dot s) (first_part s)) ∙ e

-- a lone part is the whole text
pub lone-part : (s : List ℕ) → length (parts s) ≤ 1 → parts s ≡ s ∷ []
unfolding dotted
lone-part s h = go (parts s) refl
  where
    go : (ps : List (List ℕ)) → parts s ≡ ps → parts s ≡ s ∷ []
    go [] e = absurd (omega (arith, parts-some s, ap length e))
    go (p ∷ []) e = e ∙ ap (λ (q : List ℕ). q ∷ []) (sym (ap dotted e) ∙ dotted-parts s)
    go (p ∷ q ∷ ps) e = absurd (omega (arith, ap length e))

-- ---- without an ISIL

placed-lone : (r : List ℕ) → length (parts_behind r) ≤ 1 → parts_behind r ≡ place_in r
unfolding parts_behind place_in
placed-lone [] h = refl
placed-lone (c ∷ r) h = lone-part r h

-- of two parts at most, the second stands in the set's place
pub placed : (s : List ℕ) → length (parts s) ≤ 2 → drop 1 (parts s) ≡ place_in (drop (length (up_to dot s)) s)
placed s h =
    let e = parts-behind s in
    e ∙ placed-lone (drop (length (up_to dot s)) s) (omega (arith, ap length (first_part s), ap length e))

-- ---- behind an ISIL

behind-some : (r : List ℕ) → 1 ≤ length (parts_behind r) → parts_behind r ≡ parts (drop 1 r)
unfolding parts_behind
behind-some [] h = absurd (omega arith)
behind-some (c ∷ r) h = refl

-- of two parts at least, those behind the first are those of what stands behind the first dot
pub parts-past : (s : List ℕ) → 2 ≤ length (parts s) → drop 1 (parts s) ≡ parts (past dot s)
parts-past s h =
    let e = parts-behind s in
    e ∙ behind-some (drop (length (up_to dot s)) s) (omega (arith, ap length (first_part s), ap length e)) ∙ ap parts (drop-drop 1 (length (up_to dot s)) s ∙ sym (past-drop dot s))

-- ---- where code finds them

pub isil-found : (leads : Bool) (s : List ℕ) → isil_part leads (parts s) ≡ isil_in leads s
isil-found true s = ap (λ (ps : List (List ℕ)). get_or ps 0 []) (first_part s)
isil-found false s = refl

right : (leads : Bool) (s : List ℕ) → right_count leads (parts s) ≡ true
    → (before leads + 1 ≤ length (parts s)) × (length (parts s) ≤ before leads + 2)
unfolding right_count
right leads s e = between-facts (before leads + 1) (before leads + 2) (length (parts s)) e

pub item-found : (leads : Bool) (s : List ℕ) → right_count leads (parts s) ≡ true → item_part leads (parts s) ≡ up_to dot (rest_in leads s)
item-found true s e =
    let k : 2 ≤ length (parts s) = omega (arith, right true s e) in
    ap (λ (ps : List (List ℕ)). get_or ps 1 []) (first_part s) ∙ ap (λ (ps : List (List ℕ)). get_or ps 0 []) (parts-past s k ∙ first_part (past dot s))
item-found false s e = ap (λ (ps : List (List ℕ)). get_or ps 0 []) (first_part s)

pub set_found : (leads : Bool) (s : List ℕ) → right_count leads (parts s) ≡ true
    → let rest : List ℕ = rest_in leads s in set_place leads (parts s) ≡ place_in (drop (length (up_to dot rest)) rest)
set_found true s e =
    let k : 2 ≤ length (parts s) = omega (arith, right true s e) in
    let p = parts-past s k in
    ap (drop 2) (first_part s) ∙ ap (drop 1) p ∙ placed (past dot s) (omega (arith, right true s e, ap length p, ap length (first_part s)))
set_found false s e = placed s (right false s e).1

-- ---- how many parts there are, by the first dot

pub count-last : (s : List ℕ) → length s ≤ length (up_to dot s) → length (parts s) ≡ 1
unfolding parts_behind
count-last s h = omega (arith, ap length (first_part s), ap length (parts-behind s ∙ ap parts_behind (drop_of_length-le s h)))

pub count-more : (s : List ℕ) → length (up_to dot s) < length s → length (parts s) ≡ 1 + length (parts (drop (length (up_to dot s) + 1) s))
unfolding parts_behind
count-more s h = omega (arith, ap length (first_part s), ap length (parts-behind s ∙ ap parts_behind (rest-opened s (length (up_to dot s)) h)))
