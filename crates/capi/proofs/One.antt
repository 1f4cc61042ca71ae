-- The exported calls: one number, one content of each buffer, and one value behind each pointer.
use mathlib.Core.Path.{◌≡◌, ap}
use Prim.Native.Nat.{ℕ}
use mathlib.Core.Bool.{not}
use mathlib.Core.List.{List}
use lib.Dec.{eqb}
use Rattle.format.specs.Numbers.{ReadsC, WritesC, EditsC}
use Rattle.format.proofs.Promises.{c-reads-one, c-writes-one, c-edits-one}
use Rattle.words.specs.Calls.{decoding, encoding, FillsC}
use Rattle.words.proofs.Promises.{c-fills-one}
use Rattle.identifier.specs.Elements.{Elements, three}
use Rattle.identifier.specs.Calls.{Lengths, parting, joining, FillsThreeC}
use Rattle.identifier.proofs.Promises.{c-fills-three-one}

pub urp-read-one : (tag sheet : List ℕ) (used place r r₂ : ℕ) (sheet' sheet₂ : List ℕ) (used' used₂ place' place₂ : ℕ)
    → ReadsC tag sheet used place r sheet' used' place'
    → ReadsC tag sheet used place r₂ sheet₂ used₂ place₂
    → (r ≡ r₂) × (sheet' ≡ sheet₂) × (used' ≡ used₂) × (place' ≡ place₂)
urp-read-one = c-reads-one

pub urp-write-one : (sheet tag locks : List ℕ) (pages r r₂ : ℕ) (tag' tag₂ : List ℕ) (pages' pages₂ : ℕ)
    → WritesC sheet tag locks pages r tag' pages'
    → WritesC sheet tag locks pages r₂ tag₂ pages₂
    → (r ≡ r₂) × (tag' ≡ tag₂) × (pages' ≡ pages₂)
urp-write-one = c-writes-one

pub urp-edit-one : (tag locks : List ℕ) (number : ℕ) (value old : List ℕ) (pages used place r r₂ : ℕ) (tag' tag₂ old' old₂ : List ℕ) (pages' pages₂ used' used₂ place' place₂ : ℕ)
    → EditsC tag locks number value old pages used place r tag' old' pages' used' place'
    → EditsC tag locks number value old pages used place r₂ tag₂ old₂ pages₂ used₂ place₂
    → (r ≡ r₂) × (tag' ≡ tag₂) × (old' ≡ old₂) × (pages' ≡ pages₂) × (used' ≡ used₂) × (place' ≡ place₂)
urp-edit-one = c-edits-one

pub urp-words-to-text-one : (words text : List ℕ) (used r r₂ : ℕ) (text' text₂ : List ℕ) (used' used₂ : ℕ)
    → FillsC (decoding words text) used r text' used'
    → FillsC (decoding words text) used r₂ text₂ used₂
    → (r ≡ r₂) × (text' ≡ text₂) × (used' ≡ used₂)
urp-words-to-text-one words text = c-fills-one (decoding words text)

pub urp-text-to-words-one : (text words : List ℕ) (used r r₂ : ℕ) (words' words₂ : List ℕ) (used' used₂ : ℕ)
    → FillsC (encoding text words) used r words' used'
    → FillsC (encoding text words) used r₂ words₂ used₂
    → (r ≡ r₂) × (words' ≡ words₂) × (used' ≡ used₂)
urp-text-to-words-one text words = c-fills-one (encoding text words)

pub urp-take-apart-one : (text : List ℕ) (leads : ℕ) (item isil set : List ℕ) (used1 used3 used4 r r₂ : ℕ) (item' item₂ isil' isil₂ set' set₂ : List ℕ) (used1' used1₂ used3' used3₂ used4' used4₂ : ℕ)
    → FillsThreeC (parting (not (eqb leads 0)) text (three item isil set)) (three used1 used3 used4) r (three item' isil' set') (three used1' used3' used4')
    → FillsThreeC (parting (not (eqb leads 0)) text (three item isil set)) (three used1 used3 used4) r₂ (three item₂ isil₂ set₂) (three used1₂ used3₂ used4₂)
    → (r ≡ r₂) × (item' ≡ item₂) × (isil' ≡ isil₂) × (set' ≡ set₂) × (used1' ≡ used1₂) × (used3' ≡ used3₂) × (used4' ≡ used4₂)
urp-take-apart-one text leads item isil set used1 used3 used4 r r₂ item' item₂ isil' isil₂ set' set₂ used1' used1₂ used3' used3₂ used4' used4₂ x y =
    let e = c-fills-three-one _ _ r r₂ _ _ _ _ x y in (
      e.0,
      ap (λ (t : Elements). t.item) e.1,
      ap (λ (t : Elements). t.isil) e.1,
      ap (λ (t : Elements). t.set) e.1,
      ap (λ (t : Lengths). t.item) e.2,
      ap (λ (t : Lengths). t.isil) e.2,
      ap (λ (t : Lengths). t.set) e.2,
    )

pub urp-put-together-one : (item isil set text : List ℕ) (used r r₂ : ℕ) (text' text₂ : List ℕ) (used' used₂ : ℕ)
    → FillsC (joining (three item isil set) text) used r text' used'
    → FillsC (joining (three item isil set) text) used r₂ text₂ used₂
    → (r ≡ r₂) × (text' ≡ text₂) × (used' ≡ used₂)
urp-put-together-one item isil set text = c-fills-one (joining (three item isil set) text)
