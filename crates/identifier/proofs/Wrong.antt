-- Wrong programs, and the demand that each breaks. Nothing is said here of `parting` or `joining`: whatever program is of one of these kinds does
-- not keep the demand (specs/Demands.antt), however its proof were made.
use mathlib.Core.Path.{◌≡◌, refl, sym, ap, ◌∙◌}
use Prim.Native.Nat.{ℕ, ◌≤◌}
use native.Mathlib.Omega.{arith}
use mathlib.Core.Bool.{Bool, true, false}
use mathlib.Core.List.{List, [], ◌∷◌, ◌++◌}
use lib.ListN.{length, get_or}
use Rattle.format.specs.Answers.{Refusal, plain, got, refused}
use Rattle.format.specs.Bytes.{all, filled, same, up_to, past, le16, word}
use Rattle.format.specs.Text.{rows, after, rows_from, text}
use Rattle.format.specs.Fields.{capital, unit_byte, isil_of, isil}
use Rattle.format.specs.Elements.{set_info, shape, form, value}
use Rattle.format.proofs.Answers.{got-inj}
use Rattle.format.proofs.Tests.{never}
use Rattle.format.proofs.Wrong.{no-refusal}
use Rattle.words.specs.Demands.{Done}
use Rattle.identifier.specs.Parts.{on_first, parts, dotted}
use Rattle.identifier.specs.SetDigits.{number_from, digits, width, says_set, set_part}
use Rattle.identifier.specs.Elements.{three, Elements, right_count, pointing, good_set, good_parts, set_of, good_elements, parts_for}
use Rattle.identifier.specs.Calls.{Lengths}
use Rattle.identifier.specs.Meaning.{Holds, Points}
use Rattle.identifier.specs.Demands.{Parter, DoneThree, set, LeavesThree, Counted, PartsIdentifiers, Joiner, Sound, Made, JoinsElements}
use Rattle.identifier.proofs.Splitting.{right-counted, counted-right}
use Rattle.identifier.proofs.Holding.{holds-found, found-holds, points-s}
use Rattle.identifier.proofs.Making.{good-sound, sound-good, sound-made}

-- ---- what the kinds are told by

-- A, A.A; DK-1 and 31
abbrev a : List ℕ
a = 0x41 ∷ []

abbrev a-a : List ℕ
a-a = 0x41 ∷ 0x2E ∷ 0x41 ∷ []

abbrev dk : List ℕ
dk = 0x44 ∷ 0x4B ∷ 0x2D ∷ 0x31 ∷ []

abbrev dk-31 : List ℕ
dk-31 = 0x44 ∷ 0x4B ∷ 0x2D ∷ 0x31 ∷ 0x2E ∷ 0x33 ∷ 0x31 ∷ []

abbrev none : List ℕ
none = 0 ∷ 0 ∷ 0 ∷ 0 ∷ []

-- A and digits in the set's place, A.31 and A.99
abbrev with-set : List ℕ → List ℕ
with-set p = 0x41 ∷ 0x2E ∷ p

abbrev room : Elements
room = three (0 ∷ 0 ∷ 0 ∷ 0 ∷ []) (0 ∷ 0 ∷ 0 ∷ 0 ∷ []) (9 ∷ 9 ∷ 9 ∷ 9 ∷ [])

-- the number of parts is right, but they make no identifier and point nowhere
pub record Unfit (leads : Bool) (s : List ℕ) : Type 0 where
  pub counted : Counted leads s
  pub holds-nothing : (e : Elements) → Holds leads s e → ⊥
  pub points-nowhere : Points leads s → ⊥

unfit : (leads : Bool) (s : List ℕ) → right_count leads (parts s) ≡ true → good_parts leads (parts s) ≡ false → Unfit leads s
unfit leads s r g = record { counted = right-counted leads s r; holds-nothing = λ e h. never (cc (g, (holds-found h).good)); points-nowhere = λ h. never (cc (g, (points-s h).1)) }

record Facts : Type 0 where
  alone : Holds false a (three a [] none)
  led : Holds true dk-31 (three (0x33 ∷ 0x31 ∷ []) dk none)
  unled : Holds false dk-31 (three dk [] (3 ∷ 0 ∷ 1 ∷ 0 ∷ []))
  of-nine : Holds false (with-set (0x39 ∷ 0x31 ∷ [])) (three a [] (9 ∷ 0 ∷ 1 ∷ 0 ∷ []))
  s-alone : Holds false (0x53 ∷ []) (three (0x53 ∷ []) [] none)
  s-behind : Holds true (dk ++ (0x2E ∷ 0x53 ∷ [])) (three (0x53 ∷ []) dk none)

facts : Facts
unfolding all same up_to past le16 word rows after rows_from text capital unit_byte isil_of isil shape form on_first parts number_from width says_set right_count pointing good_set good_parts set_of
facts = record {
  alone = found-holds false a refl refl refl;
  led = found-holds true dk-31 refl refl refl;
  unled = found-holds false dk-31 refl refl refl;
  of-nine = found-holds false (with-set (0x39 ∷ 0x31 ∷ [])) refl refl refl;
  s-alone = found-holds false (0x53 ∷ []) refl refl refl;
  s-behind = found-holds true (dk ++ (0x2E ∷ 0x53 ∷ [])) refl refl refl;
}

-- A.00, A.0901 (a total of 9 in four digits), A.12 (ordinal above total), A.260004, A. and .S; with an ISIL dk-1.A
pub unfits : Unfit false (with-set (0x30 ∷ 0x30 ∷ [])) × Unfit false (with-set (0x30 ∷ 0x39 ∷ 0x30 ∷ 0x31 ∷ [])) × Unfit false (with-set (0x31 ∷ 0x32 ∷ []))
    × Unfit false (with-set (0x32 ∷ 0x36 ∷ 0x30 ∷ 0x30 ∷ 0x30 ∷ 0x34 ∷ [])) × Unfit false (with-set []) × Unfit false (0x2E ∷ 0x53 ∷ []) × Unfit true (0x64 ∷ 0x6B ∷ 0x2D ∷ 0x31 ∷ 0x2E ∷ a)
unfolding all same up_to past rows after rows_from text capital unit_byte isil_of isil shape form on_first parts number_from width says_set right_count good_set good_parts
unfits = (unfit false _ refl refl, unfit false _ refl refl, unfit false _ refl refl, unfit false _ refl refl, unfit false _ refl refl, unfit false _ refl refl, unfit true _ refl refl)

-- A.A.A has a part too many without an ISIL, DK-1 one too few with it
uncounted : (leads : Bool) (s : List ℕ) → right_count leads (parts s) ≡ false → Counted leads s → ⊥
uncounted leads s r c = never (cc (r, counted-right leads s c))

pub miscounted : (Counted false (0x41 ∷ 0x2E ∷ a-a) → ⊥) × (Counted true dk → ⊥)
unfolding on_first parts right_count
miscounted = (uncounted false (0x41 ∷ 0x2E ∷ a-a) refl, uncounted true dk refl)

-- ==== taking apart

module _ (f : Parter) (d : PartsIdentifiers f) where
  gives-alone : DoneThree (f false a room) (three a [] none) room
  gives-alone = d.done false a _ room facts.alone (record { item = omega arith; isil = omega arith; set = omega arith })

  gives-led : DoneThree (f true dk-31 room) (three (0x33 ∷ 0x31 ∷ []) dk none) room
  gives-led = d.done true dk-31 _ room facts.led (record { item = omega arith; isil = omega arith; set = omega arith })

  gives-unled : DoneThree (f false dk-31 room) (three dk [] (3 ∷ 0 ∷ 1 ∷ 0 ∷ [])) room
  gives-unled = d.done false dk-31 _ room facts.unled (record { item = omega arith; isil = omega arith; set = omega arith })

  pub parter-refusing-all : ((leads : Bool) (s : List ℕ) (buffers : Elements) → (x : Refusal) × ((f leads s buffers).answer ≡ refused x)) → ⊥
  parter-refusing-all refuses = no-refusal (refuses false a room).1 gives-alone.0

  -- the flag is guessed from the form: what the caller says makes no difference
  pub parter-guessing : ((s : List ℕ) (buffers : Elements) → (f true s buffers).answer ≡ (f false s buffers).answer) → ⊥
  parter-guessing alike =
      let y : ◌≡◌ {A = ℕ} 2 4 = ap (λ (n : Lengths). n.item) (got-inj (sym gives-led.0 ∙ alike dk-31 room ∙ gives-unled.0)) in
      omega arith

  -- text is taken that is no identifier: 00 as a set, a total of 9 in four digits, an ordinal above the total, 260004 as a set of 4, an empty part
  pub parter-taking : (leads : Bool) (s : List ℕ) → Unfit leads s → (buffers : Elements) (n : Lengths) → (f leads s buffers).answer ≡ got n → ⊥
  parter-taking leads s u buffers n e = no-refusal ((d.bad leads s buffers).1 (u.counted, u.holds-nothing, u.points-nowhere)) e

  -- text is taken that has too many parts, or too few
  pub parter-miscounting : (leads : Bool) (s : List ℕ) → (Counted leads s → ⊥) → (buffers : Elements) (n : Lengths) → (f leads s buffers).answer ≡ got n → ⊥
  parter-miscounting leads s u buffers n e = no-refusal ((d.count leads s buffers).1 u) e

  -- S before a bad part is told: 23 before 6
  pub parter-seeing-s-first : ((buffers : Elements) → (f false (0x2E ∷ 0x53 ∷ []) buffers).answer ≡ refused (plain 23)) → ⊥
  parter-seeing-s-first sees = unfits.5.points-nowhere ((d.pointing false (0x2E ∷ 0x53 ∷ []) room).0 (sees room))

  -- S in the identifier's place is taken for one in the set's
  pub parter-seeing-s-anywhere : ((leads : Bool) (front : List ℕ) (buffers : Elements) → (f leads (front ++ (0x53 ∷ [])) buffers).answer ≡ refused (plain 23)) → ⊥
  parter-seeing-s-anywhere sees =
      no-refusal (sees false [] room) (d.done false (0x53 ∷ []) _ room facts.s-alone (record { item = omega arith; isil = omega arith; set = omega arith })).0

  -- one set information for every identifier, such as 0 and 0
  pub parter-with-one-set : ((leads leads' : Bool) (s s' : List ℕ) (buffers : Elements) (n n' : Lengths) → (f leads s buffers).answer ≡ got n → (f leads' s' buffers).answer ≡ got n' → (f leads s buffers).buffers.set ≡ (f leads' s' buffers).buffers.set) → ⊥
  parter-with-one-set alike =
      let z : ◌≡◌ {A = ℕ} 0 3 =
      ap (λ (b : List ℕ). get_or b 0 0) (sym (ap (λ (e : Elements). e.set) gives-alone.1) ∙ alike false false a dk-31 room _ _ gives-alone.0 gives-unled.0 ∙ ap (λ (e : Elements). e.set) gives-unled.1) in
      omega arith

  -- no set information is no element 4
  pub parter-leaving-out-set : ((s : List ℕ) (buffers : Elements) (n : Lengths) → (f false s buffers).answer ≡ got n → (Holds false s (three s [] none)) → n.set ≡ 0) → ⊥
  parter-leaving-out-set leaves = let z : ◌≡◌ {A = ℕ} 4 0 = leaves a room _ gives-alone.0 facts.alone in omega arith

  -- each buffer that has the room is filled, though another has not
  pub parter-filling-one : LeavesThree f
      → ((leads : Bool) (s : List ℕ) (e buffers : Elements) → Holds leads s e → length e.item ≤ length buffers.item → (f leads s buffers).buffers.item ≡ filled e.item buffers.item) → ⊥
  parter-filling-one alone fills =
      let few : Elements = three (0 ∷ []) [] [] in
      let short : (f false a few).answer ≡ refused (plain 2) = (d.short false a few).1 (three a [] none, facts.alone, set (omega arith)) in
      let z : ◌≡◌ {A = ℕ} 0 0x41 = ap (λ (b : List ℕ). get_or b 0 0) (sym (ap (λ (e : Elements). e.item) (alone false a few _ short)) ∙ fills false a (three a [] none) few facts.alone (omega arith)) in
      omega arith

-- ==== putting together

-- sound elements and their identifiers: A; A in a set of 9, part 1; DK-1 and A
record Made-facts : Type 0 where
  of-a : Made a (three a [] none)
  of-nine : Made (with-set (0x39 ∷ 0x31 ∷ [])) (three a [] (9 ∷ 0 ∷ 1 ∷ 0 ∷ []))
  of-dk : Made (dk ++ (0x2E ∷ a)) (three a dk none)

made-facts : Made-facts
unfolding all same up_to past le16 word rows after rows_from text capital unit_byte isil_of isil set_info shape form value dotted digits width set_part good_elements parts_for
made-facts = record {
  of-a = sound-made (three a [] none) (good-sound _ refl);
  of-nine = sound-made (three a [] (9 ∷ 0 ∷ 1 ∷ 0 ∷ [])) (good-sound _ refl);
  of-dk = sound-made (three a dk none) (good-sound _ refl);
}

unsound : (e : Elements) → good_elements e ≡ false → Sound e → ⊥
unsound e g s = never (cc (sound-good e s, g))

-- A.A as an identifier; 260 parts, and part 4 of them; no element 4
pub unsounds : (Sound (three a-a [] none) → ⊥) × (Sound (three a [] (4 ∷ 1 ∷ 4 ∷ 0 ∷ [])) → ⊥) × (Sound (three a [] []) → ⊥)
unfolding all same rows after rows_from text set_info shape form value word good_elements
unsounds = (unsound (three a-a [] none) refl, unsound (three a [] (4 ∷ 1 ∷ 4 ∷ 0 ∷ [])) refl, unsound (three a [] []) refl)

module _ (f : Joiner) (d : JoinsElements f) where
  makes-a : Done (f (three a [] none) (9 ∷ 9 ∷ 9 ∷ 9 ∷ [])) a (9 ∷ 9 ∷ 9 ∷ 9 ∷ [])
  makes-a = d.done _ a (9 ∷ 9 ∷ 9 ∷ 9 ∷ []) made-facts.of-a (omega arith)

  makes-nine : Done (f (three a [] (9 ∷ 0 ∷ 1 ∷ 0 ∷ [])) (9 ∷ 9 ∷ 9 ∷ 9 ∷ [])) (with-set (0x39 ∷ 0x31 ∷ [])) (9 ∷ 9 ∷ 9 ∷ 9 ∷ [])
  makes-nine = d.done _ (with-set (0x39 ∷ 0x31 ∷ [])) (9 ∷ 9 ∷ 9 ∷ 9 ∷ []) made-facts.of-nine (omega arith)

  pub joiner-refusing-all : ((e : Elements) (buffer : List ℕ) → (x : Refusal) × ((f e buffer).answer ≡ refused x)) → ⊥
  joiner-refusing-all refuses = no-refusal (refuses (three a [] none) (9 ∷ 9 ∷ 9 ∷ 9 ∷ [])).1 makes-a.0

  -- elements are taken that are not sound: a dot in the identifier, 260 parts, no element 4 as none
  pub joiner-taking : (e : Elements) → (Sound e → ⊥) → (buffer : List ℕ) (n : ℕ) → (f e buffer).answer ≡ got n → ⊥
  joiner-taking e u buffer n h = no-refusal ((d.bad e buffer).1 u) h

  -- set information is left out
  pub joiner-without-set : ((e e' : Elements) (buffer : List ℕ) → e.item ≡ e'.item → e.isil ≡ e'.isil → (f e buffer).answer ≡ (f e' buffer).answer) → ⊥
  joiner-without-set alike =
      let z : ◌≡◌ {A = ℕ} 1 4 = got-inj (sym makes-a.0 ∙ alike (three a [] none) (three a [] (9 ∷ 0 ∷ 1 ∷ 0 ∷ [])) (9 ∷ 9 ∷ 9 ∷ 9 ∷ []) refl refl ∙ makes-nine.0) in
      omega arith

  -- a total of 9 is written in four digits
  pub joiner-in-four-digits : ((buffer : List ℕ) (n : ℕ) → (f (three a [] (9 ∷ 0 ∷ 1 ∷ 0 ∷ [])) buffer).answer ≡ got n → 6 ≤ n) → ⊥
  joiner-in-four-digits writes = let z : 6 ≤ 4 = writes (9 ∷ 9 ∷ 9 ∷ 9 ∷ []) 4 makes-nine.0 in omega arith

  -- an ISIL is left out
  pub joiner-without-isil : ((e e' : Elements) (buffer : List ℕ) → e.item ≡ e'.item → e.set ≡ e'.set → (f e buffer).answer ≡ (f e' buffer).answer) → ⊥
  joiner-without-isil alike =
      let b : List ℕ = 9 ∷ 9 ∷ 9 ∷ 9 ∷ 9 ∷ 9 ∷ [] in
      let l : Done (f (three a dk none) b) (dk ++ (0x2E ∷ a)) b = d.done _ _ b made-facts.of-dk (omega arith) in
      let k : Done (f (three a [] none) b) a b = d.done _ a b made-facts.of-a (omega arith) in
      let z : ◌≡◌ {A = ℕ} 6 1 = got-inj (sym l.0 ∙ alike (three a dk none) (three a [] none) b refl refl ∙ k.0) in
      omega arith
