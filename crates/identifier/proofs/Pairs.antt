-- Identifiers and elements at the edges of the rules, computed: one table under a single statement. The first is document 02's example of E2.
use mathlib.Core.Path.{◌≡◌, refl}
use Prim.Native.Nat.{ℕ}
use mathlib.Core.Bool.{Bool, true, false}
use mathlib.Core.List.{List, [], ◌∷◌, ◌++◌}
use lib.ListN.{length}
use Rattle.format.specs.Answers.{plain, got, refused, need, in_order, afterwards}
use Rattle.format.specs.Bytes.{all, same, up_to, past, le16, word}
use Rattle.format.specs.Text.{rows, after, rows_from, text}
use Rattle.format.specs.Fields.{capital, unit_byte, isil_of, isil}
use Rattle.format.specs.Elements.{set_info, shape, form, value}
use Rattle.words.specs.Calls.{filling}
use Rattle.words.proofs.Pairs.{swiss}
use Rattle.identifier.specs.Parts.{on_first, parts, dotted}
use Rattle.identifier.specs.SetDigits.{number_from, digits, width, says_set, set_part}
use Rattle.identifier.specs.Elements.{three, Elements, right_count, pointing, good_set, good_parts, set_of, good_elements, parts_for}
use Rattle.identifier.specs.Calls.{lengths, room_for, part_steps, parting, join_steps, joining}

-- CH-000134-1, 12345678; DK-1; A, S
swiss_isil : List ℕ
swiss_isil = 0x43 ∷ 0x48 ∷ 0x2D ∷ 0x30 ∷ 0x30 ∷ 0x30 ∷ 0x31 ∷ 0x33 ∷ 0x34 ∷ 0x2D ∷ 0x31 ∷ []

swiss_item : List ℕ
swiss_item = 0x31 ∷ 0x32 ∷ 0x33 ∷ 0x34 ∷ 0x35 ∷ 0x36 ∷ 0x37 ∷ 0x38 ∷ []

dk : List ℕ
dk = 0x44 ∷ 0x4B ∷ 0x2D ∷ 0x31 ∷ []

a : List ℕ
a = 0x41 ∷ []

s : List ℕ
s = 0x53 ∷ []

nothing : Elements
nothing = three [] [] []

-- p, a dot and q
infixr 6 ◌·◌
◌·◌ : List ℕ → List ℕ → List ℕ
p · q = p ++ (0x2E ∷ q)

-- an identifier that holds these elements, both ways, with just the room
Both : Bool → List ℕ → Elements → Type 0
Both leads t e = ((parting leads t e).answer ≡ got (lengths e)) × ((parting leads t e).buffers ≡ e) × ((joining e t).answer ≡ got (length t)) × ((joining e t).buffer ≡ t)

-- a text that is refused with this number, whatever the room, and elements that are
Refused : Bool → List ℕ → ℕ → Type 0
Refused leads t k = (parting leads t nothing).answer ≡ refused (plain k)

Bad : Elements → Type 0
Bad e = (joining e []).answer ≡ refused (plain 9)

pub record Pairs : Type 0 where
  example : Both true swiss (three swiss_item swiss_isil (3 ∷ 0 ∷ 1 ∷ 0 ∷ []))
  -- the flag alone decides: DK-1.31 is an ISIL and an identifier, or an identifier and part 1 of 3
  with-flag : Both true (dk · 0x33 ∷ 0x31 ∷ []) (three (0x33 ∷ 0x31 ∷ []) dk (0 ∷ 0 ∷ 0 ∷ 0 ∷ []))
  without-flag : Both false (dk · 0x33 ∷ 0x31 ∷ []) (three dk [] (3 ∷ 0 ∷ 1 ∷ 0 ∷ []))
  -- no set information is 0 and 0; S alone is an identifier, and behind an ISIL; digits alone are one
  alone : Both false a (three a [] (0 ∷ 0 ∷ 0 ∷ 0 ∷ []))
  s-item : Both false s (three s [] (0 ∷ 0 ∷ 0 ∷ 0 ∷ []))
  s-behind-isil : Both true (dk · s) (three s dk (0 ∷ 0 ∷ 0 ∷ 0 ∷ []))
  digits-alone : Both false (0x31 ∷ 0x31 ∷ []) (three (0x31 ∷ 0x31 ∷ []) [] (0 ∷ 0 ∷ 0 ∷ 0 ∷ []))
  -- A.10, A.99, A.1000, A.9999, A.100000, A.255255: the bounds of two, four and six digits
  least-two : Both false (a · 0x31 ∷ 0x30 ∷ []) (three a [] (1 ∷ 0 ∷ 0 ∷ 0 ∷ []))
  most-two : Both false (a · 0x39 ∷ 0x39 ∷ []) (three a [] (9 ∷ 0 ∷ 9 ∷ 0 ∷ []))
  least-four : Both false (a · 0x31 ∷ 0x30 ∷ 0x30 ∷ 0x30 ∷ []) (three a [] (10 ∷ 0 ∷ 0 ∷ 0 ∷ []))
  most-four : Both false (a · 0x39 ∷ 0x39 ∷ 0x39 ∷ 0x39 ∷ []) (three a [] (99 ∷ 0 ∷ 99 ∷ 0 ∷ []))
  least-six : Both false (a · 0x31 ∷ 0x30 ∷ 0x30 ∷ 0x30 ∷ 0x30 ∷ 0x30 ∷ []) (three a [] (100 ∷ 0 ∷ 0 ∷ 0 ∷ []))
  most-six : Both false (a · 0x32 ∷ 0x35 ∷ 0x35 ∷ 0x32 ∷ 0x35 ∷ 0x35 ∷ []) (three a [] (255 ∷ 0 ∷ 255 ∷ 0 ∷ []))
  -- an identifier with an accent
  accent : Both false (0xC3 ∷ 0xA9 ∷ []) (three (0xC3 ∷ 0xA9 ∷ []) [] (0 ∷ 0 ∷ 0 ∷ 0 ∷ []))
  -- 22: too few parts, too many; before a bad part is looked at
  no-isil : Refused true [] 22
  one-part : Refused true dk 22
  three-parts : Refused false (a · a · a) 22
  four-parts : Refused true (dk · a · a · a) 22
  two-dots : Refused false ([] · [] · []) 22
  -- 6: nothing; an empty part; no ISIL; no text; no set information
  empty-text : Refused false [] 6
  two-empty : Refused true ([] · [] · []) 6
  empty-isil : Refused true ([] · a) 6
  small-isil : Refused true ((0x64 ∷ 0x6B ∷ 0x2D ∷ 0x31 ∷ []) · a) 6
  no_text : Refused false (0xC3 ∷ []) 6
  empty-set : Refused false (a · []) 6
  zero-set : Refused false (a · 0x30 ∷ 0x30 ∷ []) 6
  zero-total : Refused false (a · 0x30 ∷ 0x31 ∷ []) 6
  nine-in-four : Refused false (a · 0x30 ∷ 0x39 ∷ 0x30 ∷ 0x31 ∷ []) 6
  ninety-nine-in-six : Refused false (a · 0x30 ∷ 0x39 ∷ 0x39 ∷ 0x30 ∷ 0x39 ∷ 0x39 ∷ []) 6
  ordinal-above : Refused false (a · 0x31 ∷ 0x32 ∷ []) 6
  above-255 : Refused false (a · 0x32 ∷ 0x35 ∷ 0x36 ∷ 0x30 ∷ 0x30 ∷ 0x30 ∷ []) 6
  set-of-260 : Refused false (a · 0x32 ∷ 0x36 ∷ 0x30 ∷ 0x30 ∷ 0x30 ∷ 0x34 ∷ []) 6
  three-digits : Refused false (a · 0x31 ∷ 0x31 ∷ 0x31 ∷ []) 6
  seven-digits : Refused false (a · 0x31 ∷ 0x30 ∷ 0x30 ∷ 0x30 ∷ 0x30 ∷ 0x30 ∷ 0x30 ∷ []) 6
  small-s : Refused false (a · 0x73 ∷ []) 6
  two-s : Refused false (a · 0x53 ∷ 0x53 ∷ []) 6
  -- 6 before 23, and 23 before 2
  s-behind-nothing : Refused false ([] · s) 6
  s-behind-bad : Refused true ((0x64 ∷ 0x6B ∷ 0x2D ∷ 0x31 ∷ []) · a · s) 6
  points : Refused false (a · s) 23
  points-too : Refused true (dk · a · s) 23
  -- 2: one buffer a byte too short is enough, and nothing changes
  short-item : parting true (dk · a · 0x31 ∷ 0x31 ∷ []) (three [] dk (9 ∷ 9 ∷ 9 ∷ 9 ∷ [])) ≡ record { answer = refused (plain 2); buffers = three [] dk (9 ∷ 9 ∷ 9 ∷ 9 ∷ []) }
  short-isil : parting true (dk · a · 0x31 ∷ 0x31 ∷ []) (three (9 ∷ []) (9 ∷ 9 ∷ 9 ∷ []) (9 ∷ 9 ∷ 9 ∷ 9 ∷ [])) ≡ record { answer = refused (plain 2); buffers = three (9 ∷ []) (9 ∷ 9 ∷ 9 ∷ []) (9 ∷ 9 ∷ 9 ∷ 9 ∷ []) }
  short-set : parting false a (three (9 ∷ []) [] (9 ∷ 9 ∷ 9 ∷ [])) ≡ record { answer = refused (plain 2); buffers = three (9 ∷ []) [] (9 ∷ 9 ∷ 9 ∷ []) }
  -- more room than is needed: the rest stays
  more_room : parting false a (three (9 ∷ 9 ∷ []) (9 ∷ []) (9 ∷ 9 ∷ 9 ∷ 9 ∷ 9 ∷ [])) ≡ record { answer = got (three 1 0 4); buffers = three (0x41 ∷ 9 ∷ []) (9 ∷ []) (0 ∷ 0 ∷ 0 ∷ 0 ∷ 9 ∷ []) }
  short-text : joining (three a [] (1 ∷ 0 ∷ 1 ∷ 0 ∷ [])) (9 ∷ 9 ∷ 9 ∷ []) ≡ record { answer = refused (plain 2); buffer = 9 ∷ 9 ∷ 9 ∷ [] }
  more-text : joining (three a [] (0 ∷ 0 ∷ 0 ∷ 0 ∷ [])) (9 ∷ 9 ∷ []) ≡ record { answer = got 1; buffer = 0x41 ∷ 9 ∷ [] }
  -- 9: no identifier, or one with a dot; no ISIL; ordinal above the parts; 260 parts; no element 4, or a short one
  no_item : Bad (three [] [] (0 ∷ 0 ∷ 0 ∷ 0 ∷ []))
  dot-inside : Bad (three (a · a) [] (0 ∷ 0 ∷ 0 ∷ 0 ∷ []))
  bad-isil : Bad (three a (0x64 ∷ 0x6B ∷ 0x2D ∷ 0x31 ∷ []) (0 ∷ 0 ∷ 0 ∷ 0 ∷ []))
  ordinal-alone : Bad (three a [] (0 ∷ 0 ∷ 1 ∷ 0 ∷ []))
  parts-260 : Bad (three a [] (4 ∷ 1 ∷ 4 ∷ 0 ∷ []))
  no-set : Bad (three a [] [])
  short-element : Bad (three a [] (0 ∷ 0 ∷ 0 ∷ []))

pub pairs-hold : Pairs
unfolding swiss swiss_isil swiss_item dk a s nothing ◌·◌ Both Refused Bad need in_order afterwards all same up_to past le16 word rows after rows_from text capital unit_byte isil_of isil set_info shape form value filling on_first parts dotted number_from digits width says_set set_part right_count pointing good_set good_parts set_of good_elements parts_for room_for part_steps parting join_steps
pairs-hold = record {
  example = (refl, refl, refl, refl);
  with-flag = (refl, refl, refl, refl);
  without-flag = (refl, refl, refl, refl);
  alone = (refl, refl, refl, refl);
  s-item = (refl, refl, refl, refl);
  s-behind-isil = (refl, refl, refl, refl);
  digits-alone = (refl, refl, refl, refl);
  least-two = (refl, refl, refl, refl);
  most-two = (refl, refl, refl, refl);
  least-four = (refl, refl, refl, refl);
  most-four = (refl, refl, refl, refl);
  least-six = (refl, refl, refl, refl);
  most-six = (refl, refl, refl, refl);
  accent = (refl, refl, refl, refl);
  no-isil = refl;
  one-part = refl;
  three-parts = refl;
  four-parts = refl;
  two-dots = refl;
  empty-text = refl;
  two-empty = refl;
  empty-isil = refl;
  small-isil = refl;
  no_text = refl;
  empty-set = refl;
  zero-set = refl;
  zero-total = refl;
  nine-in-four = refl;
  ninety-nine-in-six = refl;
  ordinal-above = refl;
  above-255 = refl;
  set-of-260 = refl;
  three-digits = refl;
  seven-digits = refl;
  small-s = refl;
  two-s = refl;
  s-behind-nothing = refl;
  s-behind-bad = refl;
  points = refl;
  points-too = refl;
  short-item = refl;
  short-isil = refl;
  short-set = refl;
  more_room = refl;
  short-text = refl;
  more-text = refl;
  no_item = refl;
  dot-inside = refl;
  bad-isil = refl;
  ordinal-alone = refl;
  parts-260 = refl;
  no-set = refl;
  short-element = refl;
}
