-- An identifier and its elements held side by side: document 02, E5, said without splitting a text, without working a number out of digits and
-- without building either. The theorems in proofs/Promises.antt measure the definitions of the calls by this.
use Rattle.std.specs.Prelude.{◌≡◌, ℕ, suc, ◌+◌, ◌*◌, ◌≤◌, Bool, true, false, List, [], ◌∷◌, ◌++◌}
use Rattle.format.specs.Elements.{form}
use Rattle.identifier.specs.Parts.{dot, dotless}
use Rattle.identifier.specs.Elements.{three, Elements}

-- ---- parts

-- a text of n parts: none holds a dot, and a dot stands between two
pub data Parts : ℕ → List ℕ → Type 0 where
  last : (p : List ℕ) → dotless p ≡ true → Parts 1 p
  more : {n : ℕ} {s : List ℕ} (p : List ℕ) → dotless p ≡ true → Parts n s → Parts (suc n) (p ++ (dot ∷ s))

-- "The caller says if an ISIL leads: then it is ISIL and identifier, with or without set information after; otherwise identifier, with or
-- without it"
pub data Permitted : Bool → ℕ → Type 0 where
  item : Permitted false 1
  item-set : Permitted false 2
  isil-item : Permitted true 2
  isil-item-set : Permitted true 3

-- ---- set information

-- k digits, the highest first, and the number n that they stand for
pub data Digits : ℕ → ℕ → List ℕ → Type 0 where
  none : Digits 0 0 []
  more : {k n d : ℕ} {s : List ℕ} → Digits k n s → d ≤ 9 → Digits (suc k) (10 * n + d) (s ++ ((0x30 + d) ∷ []))

-- "two digits for a total of 1 to 9, four for 10 to 99, six for 100 to 255": a total, and how many digits it has
pub data Width : ℕ → ℕ → Type 0 where
  one-digit : {t : ℕ} → 1 ≤ t → t ≤ 9 → Width t 1
  two_digits : {t : ℕ} → 10 ≤ t → t ≤ 99 → Width t 2
  three-digits : {t : ℕ} → 100 ≤ t → t ≤ 255 → Width t 3

-- the same two numbers in digits, k for each, and as the two binary bytes of element 4, total and ordinal; its other two are 00
pub data SameNumbers : ℕ → List ℕ → List ℕ → Type 0 where
  same_numbers : {k t o : ℕ} {a b : List ℕ} → Digits k t a → Digits k o b → t ≤ 255 → o ≤ 255 → SameNumbers k (a ++ b) (t ∷ 0 ∷ o ∷ 0 ∷ [])

-- a part that is set information, and element 4
pub data SetPart : List ℕ → List ℕ → Type 0 where
  set : {k t o : ℕ} {p : List ℕ} → Width t k → o ≤ t → SameNumbers k p (t ∷ 0 ∷ o ∷ 0 ∷ []) → SetPart p (t ∷ 0 ∷ o ∷ 0 ∷ [])

-- ---- the identifier

-- how it begins, with element 3: with an ISIL and a dot where one leads
pub data Begins : Bool → List ℕ → List ℕ → Type 0 where
  item : Begins false [] []
  isil : {i : List ℕ} → form 3 i ≡ true → Begins true i (i ++ (dot ∷ []))

-- element 1: "Identifiers hold no dot here and at most 255 bytes"
pub record Item (x : List ℕ) : Type 0 where
  pub formed : form 1 x ≡ true
  pub whole : dotless x ≡ true

-- how it ends, with element 4: "None means 0 and 0"
pub data Ends : List ℕ → List ℕ → Type 0 where
  none : Ends (0 ∷ 0 ∷ 0 ∷ 0 ∷ []) []
  set : {p e : List ℕ} → SetPart p e → Ends e (dot ∷ p)

-- an identifier that holds these elements
pub data Holds : Bool → List ℕ → Elements → Type 0 where
  holds : {leads : Bool} {i front x e back : List ℕ} → Begins leads i front → Item x → Ends e back → Holds leads (front ++ (x ++ back)) (three x i e)

-- one with a final S in the set's place, which points to another bank
pub data Points : Bool → List ℕ → Type 0 where
  points : {leads : Bool} {i front x : List ℕ} → Begins leads i front → Item x → Points leads (front ++ (x ++ (dot ∷ 0x53 ∷ [])))

-- one that says a total t and an ordinal o in the set's place, as many digits for each, good set information or not
pub data Tells : Bool → List ℕ → ℕ → ℕ → Type 0 where
  tells : {leads : Bool} {k t o : ℕ} {i front x a b : List ℕ} → Begins leads i front → Item x → Digits k t a → Digits k o b → Tells leads (front ++ (x ++ (dot ∷ (a ++ b)))) t o
