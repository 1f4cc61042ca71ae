-- What document 02 and the demands ask of a call that takes an identifier apart, and of one that puts it together, whatever they are.
-- `proofs/Promises.antt` shows it of `parting` and `joining`; `proofs/Wrong.antt` shows of several kinds of wrong ones that they do not
-- have it.
use Rattle.std.specs.Prelude.{◌≡◌, ◌↔◌, ℕ, ◌≤◌, ◌<◌, Bool, true, not, List, length, take}
use Rattle.format.specs.Answers.{Refusal, plain, got, refused}
use Rattle.format.specs.Bytes.{is_empty}
use Rattle.format.specs.Elements.{parts_of, ordinal_of, value, form}
use Rattle.words.specs.Calls.{Outcome}
use Rattle.words.specs.Demands.{Converter, Done}
use Rattle.identifier.specs.Elements.{three, Elements}
use Rattle.identifier.specs.Calls.{lengths, Lengths, Parted, filled_all}
use Rattle.identifier.specs.Meaning.{Parts, Permitted, Item, Holds, Points, Tells}

-- ---- taking apart

-- from the caller's word if an ISIL leads, a text and three buffers
abbrev pub Parter : Type 0
Parter = Bool → List ℕ → Elements → Parted

-- the work is done: each element's length is given, and just that much of its buffer filled
abbrev pub DoneThree : Parted → Elements → Elements → Type 0
DoneThree o e buffers = (o.answer ≡ got (lengths e)) × (o.buffers ≡ filled_all e buffers)

-- each buffer has the room for its element; or one of them has not
pub record Room (e buffers : Elements) : Type 0 where
  pub item : length e.item ≤ length buffers.item
  pub isil : length e.isil ≤ length buffers.isil
  pub set : length e.set ≤ length buffers.set

pub data Short (e buffers : Elements) : Type 0 where
  item : length buffers.item < length e.item → Short e buffers
  isil : length buffers.isil < length e.isil → Short e buffers
  set : length buffers.set < length e.set → Short e buffers

-- a refusal changes no byte of any of the three buffers
abbrev pub LeavesThree : Parter → Type 0
LeavesThree f = (leads : Bool) (s : List ℕ) (buffers : Elements) (x : Refusal) → (f leads s buffers).answer ≡ refused x → (f leads s buffers).buffers ≡ buffers

-- the number of parts is right
abbrev pub Counted : Bool → List ℕ → Type 0
Counted leads s = (n : ℕ) × Parts n s × Permitted leads n

-- The elements that the identifier holds go out, where there is room for all. 22 exactly where the number of parts is not right; 6 exactly
-- where it is, and the parts are not such as make an identifier; 23 exactly where S stands in the set's place of a good one; 2 exactly where
-- it holds elements, and a buffer is too short for its own.
pub record PartsIdentifiers (f : Parter) : Type 0 where
  pub done : (leads : Bool) (s : List ℕ) (e buffers : Elements) → Holds leads s e → Room e buffers → DoneThree (f leads s buffers) e buffers
  pub count : (leads : Bool) (s : List ℕ) (buffers : Elements) → ((f leads s buffers).answer ≡ refused (plain 22)) ↔ (Counted leads s → ⊥)
  pub bad : (leads : Bool) (s : List ℕ) (buffers : Elements)
      → ((f leads s buffers).answer ≡ refused (plain 6)) ↔ (Counted leads s × ((e : Elements) → Holds leads s e → ⊥) × (Points leads s → ⊥))
  pub pointing : (leads : Bool) (s : List ℕ) (buffers : Elements) → ((f leads s buffers).answer ≡ refused (plain 23)) ↔ Points leads s
  pub short : (leads : Bool) (s : List ℕ) (buffers : Elements) → ((f leads s buffers).answer ≡ refused (plain 2)) ↔ ((e : Elements) × Holds leads s e × Short e buffers)

-- ---- putting together

-- from three elements and a buffer
abbrev pub Joiner : Type 0
Joiner = Elements → List ℕ → Outcome

-- elements that have their forms, the identifier without a dot; element 3 may be empty
pub record Sound (e : Elements) : Type 0 where
  pub item : Item e.item
  pub isil : value 3 e.isil ≡ true
  pub set : form 4 e.set ≡ true

-- an identifier that begins as its elements say: with an ISIL exactly where there is one
abbrev pub Made : List ℕ → Elements → Type 0
Made s e = Holds (not (is_empty e.isil)) s e

-- The identifier that holds the elements goes out, where there is room for it. 9 exactly where an element has not its form, or
-- the item a dot; 2 exactly where all is good, and the room is too short for the identifier.
pub record JoinsElements (f : Joiner) : Type 0 where
  pub done : (e : Elements) (s buffer : List ℕ) → Made s e → length s ≤ length buffer → Done (f e buffer) s buffer
  pub bad : (e : Elements) (buffer : List ℕ) → ((f e buffer).answer ≡ refused (plain 9)) ↔ (Sound e → ⊥)
  pub short : (e : Elements) (buffer : List ℕ) → ((f e buffer).answer ≡ refused (plain 2)) ↔ ((s : List ℕ) × Made s e × (length buffer < length s))

-- ---- both ways

-- the fronts of three buffers
abbrev pub fronts : Lengths → Elements → Elements
fronts n b = three (take n.item b.item) (take n.isil b.isil) (take n.set b.set)

-- what is put together takes apart to the same three elements, if the caller says of the ISIL what is so
abbrev pub TakesBack : Parter → Joiner → Type 0
TakesBack part join =
    (e : Elements) (buffer : List ℕ) (n : ℕ) → (join e buffer).answer ≡ got n → (buffers : Elements) → Room e buffers
    → DoneThree (part (not (is_empty e.isil)) (take n (join e buffer).buffer) buffers) e buffers

-- what was taken apart puts together to the same characters
abbrev pub PutsBack : Parter → Joiner → Type 0
PutsBack part join =
    (leads : Bool) (s : List ℕ) (buffers : Elements) (n : Lengths) → (part leads s buffers).answer ≡ got n → (buffer : List ℕ) → length s ≤ length buffer
    → Done (join (fronts n (part leads s buffers).buffers) buffer) s buffer

-- a number stays what it is, or is refused: 260 is never 4
pub record KeepsNumbers (part : Parter) (join : Joiner) : Type 0 where
  pub taken : (leads : Bool) (s : List ℕ) (t o : ℕ) (buffers : Elements) (n : Lengths) → Tells leads s t o → (part leads s buffers).answer ≡ got n
      → let set : List ℕ = (fronts n (part leads s buffers).buffers).set in (parts_of set ≡ t) × (ordinal_of set ≡ o)
  pub not_taken : (leads : Bool) (s : List ℕ) (t o : ℕ) (buffers : Elements) → Tells leads s t o → 255 < t → (part leads s buffers).answer ≡ refused (plain 6)
  pub put : (e : Elements) (buffer : List ℕ) (n : ℕ) → (join e buffer).answer ≡ got n → 0 < parts_of e.set
      → Tells (not (is_empty e.isil)) (take n (join e buffer).buffer) (parts_of e.set) (ordinal_of e.set)
  pub not-put : (e : Elements) (buffer : List ℕ) → 255 < parts_of e.set → (join e buffer).answer ≡ refused (plain 9)

-- ---- with the words of E2: document 02, "From E2's characters the desk needs elements 1, 3 and 4, and the way back"

-- elements put together, encoded, decoded and taken apart are the same elements
abbrev pub ElementsThroughWords : Parter → Joiner → Converter → Converter → Type 0
ElementsThroughWords part join decode encode =
    (e : Elements) (text words : List ℕ) (n m : ℕ)
    → (join e text).answer ≡ got n
    → let s : List ℕ = take n (join e text).buffer in (encode s words).answer ≡ got m
    → (again : List ℕ) (buffers : Elements) → n ≤ length again → Room e buffers
    → let t : Outcome = decode (take m (encode s words).buffer) again in (t.answer ≡ got n) × DoneThree (part (not (is_empty e.isil)) (take n t.buffer) buffers) e buffers

-- words decoded, taken apart and put together are the same text; that text is encoded wherever there is a word of room for each character, and
-- the words decode to it
abbrev pub WordsThroughElements : Parter → Joiner → Converter → Converter → Type 0
WordsThroughElements part join decode encode =
    (leads : Bool) (ws text : List ℕ) (buffers : Elements) (n : ℕ) (m : Lengths)
    → (decode ws text).answer ≡ got n
    → let s : List ℕ = take n (decode ws text).buffer in (part leads s buffers).answer ≡ got m
    → (again words : List ℕ) → n ≤ length again → n ≤ length words
    → Done (join (fronts m (part leads s buffers).buffers) again) s again
    × ((k : ℕ) × ((encode s words).answer ≡ got k) × Done (decode (take k (encode s words).buffer) again) s again)
