-- An identifier that holds elements is one that is taken apart into them, and one that is put together of them.
use mathlib.Core.Path.{◌≡◌, refl, sym, ap, subst, ◌∙◌}
use mathlib.Core.Logic.{inl, inr}
use Prim.Native.Nat.{ℕ, ◌<◌}
use native.Mathlib.Omega.{arith}
use mathlib.Core.Bool.{Bool, true, false, not, ◌&&◌, ◌||◌}
use mathlib.Core.List.{List, [], ◌∷◌, ◌++◌, append_assoc, append-nil}
use lib.ListN.{length}
use lib.Dec.{eqb, leb}
use borrow.Author.Tests.{eqb-true}
use Rattle.format.specs.Bytes.{is_empty, all, same, between, up_to, past, le16}
use Rattle.format.specs.Fields.{capital, unit_byte, hyphen, isil}
use Rattle.format.specs.Elements.{shape, form}
use Rattle.format.proofs.Tests.{never, and_l, and_r, and_i, or-inv, or_r, all_append, all-mono, same-eq}
use Rattle.format.proofs.Text.{between-facts}
use Rattle.format.proofs.Fields.{isil-facts, isil-whole, isil-first}
use Rattle.words.proofs.Cases.{decide}
use Rattle.identifier.specs.Parts.{dot, dotless, parts, dotted}
use Rattle.identifier.specs.SetDigits.{says_set}
use Rattle.identifier.specs.Elements.{three, Elements, right_count, isil_part, item_part, set_place, pointing, good_set, good_parts, set_of, elements_of}
use Rattle.identifier.specs.Meaning.{item, isil as led, Item, none, set, Holds, holds, Points, points, SetPart}
use Rattle.identifier.proofs.Splitting.{parts_last, parts_more, dotted-parts, parts_whole}
use Rattle.identifier.proofs.Sets.{set-of, set-said, said-set, set-whole, set-not-s}

-- ---- an ISIL holds no dot

other-than : (f : ℕ → Bool) → f dot ≡ false → (c : ℕ) → f c ≡ true → not (eqb c dot) ≡ true
other-than f n c h = decide (eqb c dot) (λ e. never (cc (ap f (eqb-true c dot e), n, h))) (λ e. rw e refl)

dot-neither : (capital dot ≡ false) × (unit_byte dot ≡ false)
unfolding capital unit_byte
dot-neither = (refl, refl)

pub form-isil : (i : List ℕ) → form 3 i ≡ true → isil i ≡ true
unfolding form shape
form-isil i f = and_l (isil i) (leb (length i) 255) f

pub isil-dotless : (i : List ℕ) → form 3 i ≡ true → dotless i ≡ true
unfolding isil all
isil-dotless i f =
    let e = form-isil i f in
    let g = isil-facts (up_to hyphen i) (past hyphen i) e in
    ap dotless (isil-whole i e)
    ∙ all_append (λ c. not (eqb c dot)) (up_to hyphen i) (hyphen ∷ past hyphen i)
    (all-mono capital (λ c. not (eqb c dot)) (other-than capital dot-neither.0) (up_to hyphen i) g.capitals)
    (all-mono unit_byte (λ c. not (eqb c dot)) (other-than unit_byte dot-neither.1) (past hyphen i) g.units)

pub isil-some : (i : List ℕ) → form 3 i ≡ true → is_empty i ≡ false
isil-some i f = (isil-first i (form-isil i f)).1

-- ---- the shapes of parts

pub data Shape : Bool → List (List ℕ) → Type 0 where
  alone : (x : List ℕ) → Shape false (x ∷ [])
  with-set : (x p : List ℕ) → Shape false (x ∷ p ∷ [])
  with-isil : (i x : List ℕ) → Shape true (i ∷ x ∷ [])
  with-both : (i x p : List ℕ) → Shape true (i ∷ x ∷ p ∷ [])

too_many : (a b n : ℕ) → b < n → between a b n ≡ true → ⊥
too_many a b n h e = omega (arith, (between-facts a b n e).1)

pub shaped : (leads : Bool) (ps : List (List ℕ)) → right_count leads ps ≡ true → Shape leads ps
unfolding right_count
shaped false [] e = never (cc)
shaped false (a ∷ []) e = alone a
shaped false (a ∷ b ∷ []) e = with-set a b
shaped false (a ∷ b ∷ c ∷ ps) e = absurd (too_many 1 2 (length (a ∷ b ∷ c ∷ ps)) (omega arith) e)
shaped true [] e = never (cc)
shaped true (a ∷ []) e = never (cc)
shaped true (a ∷ b ∷ []) e = with-isil a b
shaped true (a ∷ b ∷ c ∷ []) e = with-both a b c
shaped true (a ∷ b ∷ c ∷ d ∷ ps) e = absurd (too_many 2 3 (length (a ∷ b ∷ c ∷ d ∷ ps)) (omega arith) e)

-- ---- taken apart

-- what taking apart finds: the number of parts is right, each is good, none points, and these are the elements
pub record Found (leads : Bool) (ps : List (List ℕ)) (e : Elements) : Type 0 where
  pub right : right_count leads ps ≡ true
  pub good : good_parts leads ps ≡ true
  pub straight : pointing (set_place leads ps) ≡ false
  pub elements : elements_of leads ps ≡ e

-- the four ways
parts-x : (x : List ℕ) → Item x → parts (x ++ []) ≡ x ∷ []
parts-x x it = ap parts (append-nil x) ∙ parts_last x it.whole

pub parts-x-p : (x p : List ℕ) → Item x → dotless p ≡ true → parts (x ++ (dot ∷ p)) ≡ x ∷ p ∷ []
parts-x-p x p it w = parts_more x p it.whole ∙ ap (◌∷◌ x) (parts_last p w)

pub parts-i : (i s : List ℕ) → form 3 i ≡ true → parts ((i ++ (dot ∷ [])) ++ s) ≡ i ∷ parts s
parts-i i s f = ap parts (append_assoc i (dot ∷ []) s) ∙ parts_more i s (isil-dotless i f)

found-x : (x : List ℕ) → Item x → Found false (x ∷ []) (three x [] (0 ∷ 0 ∷ 0 ∷ 0 ∷ []))
unfolding right_count good_parts good_set pointing set_of le16
found-x x it = record { right = refl; good = and_i it.formed refl; straight = refl; elements = refl }

found-x-p : (x p e : List ℕ) → Item x → SetPart p e → Found false (x ∷ p ∷ []) (three x [] e)
unfolding right_count good_parts good_set pointing set_of
found-x-p x p e it sp =
    record { right = refl; good = and_i it.formed (or_r (same p (0x53 ∷ [])) (says_set p) (set-said sp)); straight = set-not-s sp; elements = ap (λ (b : List ℕ). three x [] b) (set-of sp) }

found-i-x : (i x : List ℕ) → form 3 i ≡ true → Item x → Found true (i ∷ x ∷ []) (three x i (0 ∷ 0 ∷ 0 ∷ 0 ∷ []))
unfolding right_count good_parts good_set pointing set_of le16
found-i-x i x f it = record { right = refl; good = and_i (and_i f it.formed) refl; straight = refl; elements = refl }

found-i-x-p : (i x p e : List ℕ) → form 3 i ≡ true → Item x → SetPart p e → Found true (i ∷ x ∷ p ∷ []) (three x i e)
unfolding right_count good_parts good_set pointing set_of
found-i-x-p i x p e f it sp =
    record { right = refl; good = and_i (and_i f it.formed) (or_r (same p (0x53 ∷ [])) (says_set p) (set-said sp)); straight = set-not-s sp; elements = ap (λ (b : List ℕ). three x i b) (set-of sp) }

-- an identifier that holds elements is taken apart into them
pub holds-found : {leads : Bool} {s : List ℕ} {e : Elements} → Holds leads s e → Found leads (parts s) e
holds-found (holds {x} item it none) = subst (λ (ps : List (List ℕ)). Found false ps (three x [] (0 ∷ 0 ∷ 0 ∷ 0 ∷ []))) (sym (parts-x x it)) (found-x x it)
holds-found (holds {x} item it (set {p} {e} sp)) = subst (λ (ps : List (List ℕ)). Found false ps (three x [] e)) (sym (parts-x-p x p it (set-whole sp))) (found-x-p x p e it sp)
holds-found (holds {x} (led {i} f) it none) =
    subst (λ (ps : List (List ℕ)). Found true ps (three x i (0 ∷ 0 ∷ 0 ∷ 0 ∷ []))) (sym (parts-i i (x ++ []) f ∙ ap (◌∷◌ i) (parts-x x it))) (found-i-x i x f it)
holds-found (holds {x} (led {i} f) it (set {p} {e} sp)) =
    subst (λ (ps : List (List ℕ)). Found true ps (three x i e)) (sym (parts-i i (x ++ (dot ∷ p)) f ∙ ap (◌∷◌ i) (parts-x-p x p it (set-whole sp)))) (found-i-x-p i x p e f it sp)

-- ---- and what is taken apart is an identifier that holds them

abbrev S : List ℕ
S = 0x53 ∷ []

-- the parts that are good, one by one
pub good-parts : (leads : Bool) (ps : List (List ℕ)) → good_parts leads ps ≡ true → (not leads || form 3 (isil_part leads ps) ≡ true) × (form 1 (item_part leads ps) ≡ true) × (good_set (set_place leads ps) ≡ true)
unfolding good_parts
good-parts leads ps e =
    let a : Bool = not leads || form 3 (isil_part leads ps) in
    let b : Bool = form 1 (item_part leads ps) in
    let c : Bool = good_set (set_place leads ps) in
    (and_l a b (and_l (a && b) c e), and_r a b (and_l (a && b) c e), and_r (a && b) c e)

-- set information, where it is not S
pub set-in : (p : List ℕ) → same p S || says_set p ≡ true → same p S ≡ false → SetPart p (set_of (p ∷ []))
unfolding set_of
set-in p g n =
    let says : says_set p ≡ true = elim (or-inv (same p S) (says_set p) g) [
      | inl t ↦ never (cc)
      | inr t ↦ t
    ] in
    let sp = said-set p says in
    subst (λ (b : List ℕ). SetPart p b) (sym (set-of sp)) sp

-- an ISIL and a dot, and the rest
pub behind-isil : (i s : List ℕ) → (i ++ (dot ∷ [])) ++ s ≡ i ++ (dot ∷ s)
behind-isil i s = append_assoc i (dot ∷ []) s

module _ (x : List ℕ) (w : dotless x ≡ true) (f : form 1 x ≡ true) where
  its-item : Item x
  its-item = record { formed = f; whole = w }

  pub holds-alone : Holds false x (three x [] (0 ∷ 0 ∷ 0 ∷ 0 ∷ []))
  holds-alone = let h : Holds false (x ++ []) (three x [] (0 ∷ 0 ∷ 0 ∷ 0 ∷ [])) = holds item its-item none in subst (λ (s : List ℕ). Holds false s (three x [] (0 ∷ 0 ∷ 0 ∷ 0 ∷ []))) (append-nil x) h

  pub holds-set : (p e : List ℕ) → SetPart p e → Holds false (x ++ (dot ∷ p)) (three x [] e)
  holds-set p e sp = holds item its-item (set sp)

  pub holds-isil : (i : List ℕ) → form 3 i ≡ true → Holds true (i ++ (dot ∷ x)) (three x i (0 ∷ 0 ∷ 0 ∷ 0 ∷ []))
  holds-isil i g =
      let h : Holds true ((i ++ (dot ∷ [])) ++ (x ++ [])) (three x i (0 ∷ 0 ∷ 0 ∷ 0 ∷ [])) = holds (led g) its-item none in
      subst (λ (s : List ℕ). Holds true s (three x i (0 ∷ 0 ∷ 0 ∷ 0 ∷ []))) (behind-isil i (x ++ []) ∙ ap (λ (r : List ℕ). i ++ (dot ∷ r)) (append-nil x)) h

  pub holds-both : (i : List ℕ) → form 3 i ≡ true → (p e : List ℕ) → SetPart p e → Holds true (i ++ (dot ∷ (x ++ (dot ∷ p)))) (three x i e)
  holds-both i g p e sp =
      let h : Holds true ((i ++ (dot ∷ [])) ++ (x ++ (dot ∷ p))) (three x i e) = holds (led g) its-item (set sp) in
      subst (λ (s : List ℕ). Holds true s (three x i e)) (behind-isil i (x ++ (dot ∷ p))) h

holds_parts : {leads : Bool} {ps : List (List ℕ)} → Shape leads ps → all dotless ps ≡ true → good_parts leads ps ≡ true → pointing (set_place leads ps) ≡ false → Holds leads (dotted ps) (elements_of leads ps)
unfolding dotted good_set pointing set_of all le16
holds_parts (alone x) w g n = holds-alone x (and_l (dotless x) _ w) (good-parts false (x ∷ []) g).1
holds_parts (with-set x p) w g n =
    let good = good-parts false (x ∷ p ∷ []) g in
    holds-set x (and_l (dotless x) _ w) good.1 p (set_of (p ∷ [])) (set-in p good.2 n)
holds_parts (with-isil i x) w g n =
    let good = good-parts true (i ∷ x ∷ []) g in
    holds-isil x (and_l (dotless x) _ (and_r (dotless i) _ w)) good.1 i good.0
holds_parts (with-both i x p) w g n =
    let good = good-parts true (i ∷ x ∷ p ∷ []) g in
    holds-both x (and_l (dotless x) _ (and_r (dotless i) _ w)) good.1 i good.0 p (set_of (p ∷ [])) (set-in p good.2 n)

pub found-holds : (leads : Bool) (s : List ℕ) → right_count leads (parts s) ≡ true → good_parts leads (parts s) ≡ true → pointing (set_place leads (parts s)) ≡ false
    → Holds leads s (elements_of leads (parts s))
found-holds leads s r g n = subst (λ (t : List ℕ). Holds leads t (elements_of leads (parts s))) (dotted-parts s) (holds_parts (shaped leads (parts s) r) (parts_whole s) g n)

-- ---- S in the set's place

s-whole : dotless S ≡ true
unfolding all
s-whole = refl

pub points-s : {leads : Bool} {s : List ℕ} → Points leads s → (right_count leads (parts s) ≡ true) × (good_parts leads (parts s) ≡ true) × (pointing (set_place leads (parts s)) ≡ true)
unfolding right_count good_parts good_set pointing same
points-s (points {x} item it) = rw (parts-x-p x S it s-whole) (refl, and_i it.formed refl, refl)
points-s (points {x} (led {i} f) it) = rw (parts-i i (x ++ (dot ∷ S)) f, parts-x-p x S it s-whole) (refl, and_i (and_i f it.formed) refl, refl)

points-parts : {leads : Bool} {ps : List (List ℕ)} → Shape leads ps → all dotless ps ≡ true → good_parts leads ps ≡ true → pointing (set_place leads ps) ≡ true → Points leads (dotted ps)
unfolding dotted pointing all
points-parts (alone x) w g n = never (cc)
points-parts (with-set x p) w g n =
    let made : Points false (x ++ (dot ∷ S)) = points item (its-item x (and_l (dotless x) _ w) (good-parts false (x ∷ p ∷ []) g).1) in
    subst (λ (q : List ℕ). Points false (x ++ (dot ∷ q))) (sym (same-eq p S n)) made
points-parts (with-isil i x) w g n = never (cc)
points-parts (with-both i x p) w g n =
    let good = good-parts true (i ∷ x ∷ p ∷ []) g in
    let made : Points true ((i ++ (dot ∷ [])) ++ (x ++ (dot ∷ S))) = points (led good.0) (its-item x (and_l (dotless x) _ (and_r (dotless i) _ w)) good.1) in
    subst (λ (q : List ℕ). Points true (i ++ (dot ∷ (x ++ (dot ∷ q))))) (sym (same-eq p S n)) (subst (Points true) (behind-isil i (x ++ (dot ∷ S))) made)

pub s-points : (leads : Bool) (s : List ℕ) → right_count leads (parts s) ≡ true → good_parts leads (parts s) ≡ true → pointing (set_place leads (parts s)) ≡ true → Points leads s
s-points leads s r g n = subst (Points leads) (dotted-parts s) (points-parts (shaped leads (parts s) r) (parts_whole s) g n)
