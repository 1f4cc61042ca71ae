-- The promises about the two calls, in one place. What is asked is said in specs/Demands.antt of any two calls; here it is shown of `parting` and
-- `joining` (specs/Calls.antt), the very functions that the contracts cite through `FillsThree` and `Fills`.
use mathlib.Core.Path.{◌≡◌, refl, sym, ap, ap₂, subst, ◌∙◌}
use mathlib.Core.Logic.{◌↔◌}
use Prim.Native.Nat.{ℕ, ◌*◌, ◌≤◌, ◌<◌}
use native.Mathlib.Omega.{arith}
use mathlib.Core.Bool.{Bool, true, false, not}
use mathlib.Core.List.{List, [], ◌∷◌, ◌++◌}
use lib.ListN.{length, take, drop}
use lib.Seq.{take-append_seam}
use Rattle.std.specs.Prelude.{Result, Ok, Err}
use Rattle.format.specs.declared.Reason.{Reason}
use Rattle.format.specs.Answers.{Answer, Refusal, plain, got, refused, or_else}
use Rattle.format.specs.Bytes.{all, is_empty, filled}
use Rattle.format.specs.Elements.{parts_of, ordinal_of, set_bytes}
use Rattle.format.specs.Numbers.{gives, one_gives, Each, none}
use Rattle.format.specs.Demands.{Exact}
use Rattle.format.proofs.Answers.{refused-inj, got-inj, worked, afterwards-got, afterwards-refused}
use Rattle.format.proofs.Given.{given-same}
use Rattle.format.proofs.Promises.{exactly}
use Rattle.format.proofs.Refusals.{test, listed, zero-done}
use Rattle.format.proofs.Tests.{never}
use Rattle.words.specs.Calls.{filling, FillsC}
use Rattle.words.specs.Demands.{LeavesAlone, Done}
use Rattle.words.proofs.Cases.{decide}
use Rattle.words.proofs.Outcomes.{answer-bad, answer-short, answer-good, good-got, bad-refused, short-refused}
use Rattle.words.proofs.Promises.{filled_zero}
use Rattle.identifier.specs.declared.Parted as code
use Rattle.identifier.specs.Parts.{parts}
use Rattle.identifier.specs.SetDigits.{digit, digits, total_in, ordinal_in}
use Rattle.identifier.specs.Elements.{Elements, right_count, good_parts, pointing, set_place, good_elements, elements_of, identifier_of}
use Rattle.identifier.specs.Calls.{Lengths, lengths, room_for, part_steps, part_gives, Parted, filled_all, parting, join_steps, join_gives, joining, parted_given, FillsThree, FillsThreeC}
use Rattle.identifier.specs.Meaning.{SameNumbers, Holds, Points}
use Rattle.identifier.specs.Demands.{DoneThree, Room, Short, LeavesThree, PartsIdentifiers, Made, JoinsElements, fronts, TakesBack, PutsBack}
use Rattle.identifier.proofs.Splitting.{right-counted, counted-right}
use Rattle.identifier.proofs.Digits.{tens}
use Rattle.identifier.proofs.Sets.{set-bytes, same_length, same_digits, same_read, same-written, same_bytes, same-below, read_same, written_same}
use Rattle.identifier.proofs.Holding.{holds-found, found-holds, points-s, s-points}
use Rattle.identifier.proofs.Making.{good-sound, sound-good, holds-sound, holds-leads, holds-made, sound-made}
use Rattle.identifier.proofs.Outcomes.{room-for, for-room, short-for, for-short, count_no, bad-no, pointing-no, short-no, all-ok, count, bad, points, short, done, verdict}

-- ==== Demand 1: one answer and one content of each buffer, on every input; a refusal changes nothing and gives only its number

-- two outcomes that fit a contract are equal (of putting together: `fills_one` and `c-fills-one` of `words`)
parted_of : Lengths → code.Parted
parted_of n = record { item = n.item; isil = n.isil; set = n.set }

parted-same : (r q : Result code.Parted Reason) → parted_given r ≡ parted_given q → r ≡ q
unfolding parted_of
parted-same (Ok p) (Ok q) e = ap (λ n. Ok (parted_of n)) (got-inj e)
parted-same (Ok p) (Err q) e = never (cc)
parted-same (Err r) (Ok q) e = never (cc)
parted-same (Err r) (Err q) e = let h = given-same {A = Lengths} (Err r) (Err q) e in cc

pub fills-three-one : (o : Parted) (r r' : Result code.Parted Reason) (b b' : Elements) → FillsThree o r b → FillsThree o r' b' → (r ≡ r') × (b ≡ b')
fills-three-one o r r' b b' x y = (parted-same r r' (x.answered ∙ sym y.answered), x.left ∙ sym y.left)

pub c-fills-three-one : (o : Parted) (used : Lengths) (r r' : ℕ) (b b' : Elements) (u u' : Lengths) → FillsThreeC o used r b u → FillsThreeC o used r' b' u' → (r ≡ r') × (b ≡ b') × (u ≡ u')
c-fills-three-one o used r r' b b' u u' x y = (x.answered ∙ sym y.answered, x.left ∙ sym y.left, x.result ∙ sym y.result)

-- each refuses exactly where one of its steps does, as the first that does, and is done exactly where all pass
pub parting-exactly : (leads : Bool) (s : List ℕ) (buffers : Elements) → Exact (part_steps leads (lengths buffers) (parts s)) (parting leads s buffers).answer
unfolding parting
parting-exactly leads s buffers = exactly (part_steps leads (lengths buffers) (parts s)) _

pub joining-exactly : (e : Elements) (buffer : List ℕ) → Exact (join_steps (length buffer) e) (joining e buffer).answer
unfolding filling
joining-exactly e buffer = exactly (join_steps (length buffer) e) _

-- the steps refuse with what the call's list says, in the paper's order; so a refusal is one of the list
pub parting-order : (leads : Bool) (room : Lengths) (ps : List (List ℕ)) → Each part_gives (part_steps leads room ps)
unfolding part_gives part_steps
parting-order leads room ps = test 22 _ (test 6 _ (test 23 _ (test 2 _ none)))

pub joining-order : (room : ℕ) (e : Elements) → Each join_gives (join_steps room e)
unfolding join_gives join_steps
joining-order room e = test 9 _ (test 2 _ none)

pub parting-listed : (leads : Bool) (s : List ℕ) (buffers : Elements) (x : Refusal) → (parting leads s buffers).answer ≡ refused x → one_gives part_gives x ≡ true
unfolding parting
parting-listed leads s buffers x e = listed part_gives (part_steps leads (lengths buffers) (parts s)) _ x (parting-order leads (lengths buffers) (parts s)) e

pub joining-listed : (e : Elements) (buffer : List ℕ) (x : Refusal) → (joining e buffer).answer ≡ refused x → one_gives join_gives x ≡ true
unfolding filling
joining-listed e buffer x h = listed join_gives (join_steps (length buffer) e) _ x (joining-order (length buffer) e) h

-- at a refusal each buffer is as at entry
pub parting-unchanged : LeavesThree parting
unfolding parting
parting-unchanged leads s buffers x e = afterwards-refused _ x _ buffers e

pub joining-unchanged : LeavesAlone joining
unfolding filling
joining-unchanged e buffer x h = afterwards-refused _ x _ buffer h

-- ==== Demand 2: taking apart and putting together agree with document 02

-- Digits and the two binary bytes of element 4 stand for equal numbers, whatever the count k of digits for each: bytes are what the digits say, ..
pub digits-to-bytes : (k : ℕ) (p e : List ℕ)
    → SameNumbers k p e ↔ ((length p ≡ 2 * k) × (all digit p ≡ true) × (total_in p ≤ 255) × (ordinal_in p ≤ 255) × (set_bytes (total_in p) (ordinal_in p) ≡ e))
digits-to-bytes k p e = (
  λ s.
      let r = same_read s in
      let b = same_bytes s in
      (same_length s, same_digits s, omega (arith, r.0, b.0), omega (arith, r.1, b.1), ap₂ set_bytes r.0 r.1 ∙ b.2),
  λ h.
      let made = read_same k p h.0 h.1 h.2 h.3 in
      subst (λ (b : List ℕ). SameNumbers k p b) (sym (set-bytes (total_in p) (ordinal_in p) h.2 h.3) ∙ h.4) made,
)

-- .. and digits what the bytes say
pub bytes-to-digits : (k : ℕ) (p e : List ℕ)
    → SameNumbers k p e
    ↔ ((e ≡ parts_of e ∷ 0 ∷ ordinal_of e ∷ 0 ∷ []) × (parts_of e ≤ 255) × (ordinal_of e ≤ 255) × (parts_of e < tens k) × (ordinal_of e < tens k) × (digits k (parts_of e) ++ digits k (ordinal_of e) ≡ p))
bytes-to-digits k p e = (
  λ s.
      let b = same_bytes s in
      let l = same-below s in
      (sym b.2 ∙ set-bytes (parts_of e) (ordinal_of e) b.0 b.1, b.0, b.1, l.0, l.1, same-written s),
  λ h.
      let made = written_same k (parts_of e) (ordinal_of e) h.1 h.2 h.3 h.4 in
      subst (λ (q : List ℕ). SameNumbers k q e) h.5 (subst (λ (b : List ℕ). SameNumbers k (digits k (parts_of e) ++ digits k (ordinal_of e)) b) (sym h.0) made),
)

-- a refusal has one number, and is no work done
plain-inj : {j k : ℕ} → plain j ≡ plain k → j ≡ k
plain-inj e = cc

apart : {A P : Type 0} {a : Answer A} {j k : ℕ} → (j ≡ k → ⊥) → a ≡ refused (plain j) → a ≡ refused (plain k) → P
apart n e f = absurd (n (plain-inj (refused-inj (sym e ∙ f))))

undone : {A P : Type 0} {a : Answer A} {x : Refusal} {n : A} → a ≡ got n → a ≡ refused x → P
undone e f = never (cc)

-- each answer, and its condition
module _ (leads : Bool) (s : List ℕ) (buffers : Elements) where
  abbrev ps : List (List ℕ)
  ps = parts s

  abbrev its : Elements
  its = elements_of leads ps

  count-given : (parting leads s buffers).answer ≡ refused (plain 22) → right_count leads ps ≡ false
  unfolding parting
  count-given h = elim (verdict leads s buffers) [
    | count r e ↦ r
    | bad r g e ↦ apart (λ z. omega arith) e h
    | points r g n e ↦ apart (λ z. omega arith) e h
    | short r g n m e ↦ apart (λ z. omega arith) e h
    | done r g n m e ↦ undone e h
  ]

  bad-given : (parting leads s buffers).answer ≡ refused (plain 6) → (right_count leads ps ≡ true) × (good_parts leads ps ≡ false)
  unfolding parting
  bad-given h = elim (verdict leads s buffers) [
    | count r e ↦ apart (λ z. omega arith) e h
    | bad r g e ↦ (r, g)
    | points r g n e ↦ apart (λ z. omega arith) e h
    | short r g n m e ↦ apart (λ z. omega arith) e h
    | done r g n m e ↦ undone e h
  ]

  pointing-given : (parting leads s buffers).answer ≡ refused (plain 23) → Points leads s
  unfolding parting
  pointing-given h = elim (verdict leads s buffers) [
    | count r e ↦ apart (λ z. omega arith) e h
    | bad r g e ↦ apart (λ z. omega arith) e h
    | points r g n e ↦ s-points leads s r g n
    | short r g n m e ↦ apart (λ z. omega arith) e h
    | done r g n m e ↦ undone e h
  ]

  short-given : (parting leads s buffers).answer ≡ refused (plain 2) → (e : Elements) × Holds leads s e × Short e buffers
  unfolding parting
  short-given h = elim (verdict leads s buffers) [
    | count r e ↦ apart (λ z. omega arith) e h
    | bad r g e ↦ apart (λ z. omega arith) e h
    | points r g n e ↦ apart (λ z. omega arith) e h
    | short r g n m e ↦ (its, found-holds leads s r g n, for-short its buffers m)
    | done r g n m e ↦ undone e h
  ]

  pub done-given : (n : Lengths) → (parting leads s buffers).answer ≡ got n → Holds leads s its × Room its buffers × DoneThree (parting leads s buffers) its buffers
  unfolding parting
  done-given k h = elim (verdict leads s buffers) [
    | count r e ↦ undone h e
    | bad r g e ↦ undone h e
    | points r g n e ↦ undone h e
    | short r g n m e ↦ undone h e
    | done r g n m e ↦ (found-holds leads s r g n, for-room its buffers m, (e, afterwards-got _ (lengths its) (filled_all its buffers) buffers e))
  ]

pub parts-identifiers : PartsIdentifiers parting
unfolding parting
parts-identifiers =
    record {
      done = λ leads s e buffers h room.
          let f = holds-found h in
          let m = ap (room_for (lengths buffers)) f.elements ∙ room-for e buffers room in
          let a = all-ok leads s buffers f.right f.good f.straight m in
          (a ∙ ap (λ (x : Elements). got (lengths x)) f.elements, afterwards-got _ _ _ buffers a ∙ ap (λ (x : Elements). filled_all x buffers) f.elements);
      count = λ leads s buffers. (
        λ h c. never (cc (count-given leads s buffers h, counted-right leads s c)),
        λ n. decide (right_count leads (parts s)) (λ r. absurd (n (right-counted leads s r))) (λ r. count_no leads s buffers r),
      );
      bad = λ leads s buffers. (
        λ h.
            let b = bad-given leads s buffers h in
            (right-counted leads s b.0, λ e k. never (cc (b.1, (holds-found k).good)), λ k. never (cc (b.1, (points-s k).1))),
        λ c.
            let r = counted-right leads s c.0 in
            decide (good_parts leads (parts s))
            (λ g. decide (pointing (set_place leads (parts s))) (λ n. absurd (c.2 (s-points leads s r g n))) (λ n. absurd (c.1 (elements_of leads (parts s)) (found-holds leads s r g n))))
            (λ g. bad-no leads s buffers r g),
      );
      pointing = λ leads s buffers. (
        λ h. pointing-given leads s buffers h,
        λ k. let f = points-s k in pointing-no leads s buffers f.0 f.1 f.2,
      );
      short = λ leads s buffers. (
        λ h. short-given leads s buffers h,
        λ c. let f = holds-found c.1 in short-no leads s buffers f.right f.good f.straight (ap (room_for (lengths buffers)) f.elements ∙ short-for c.2),
      );
    }

pub joins-elements : JoinsElements joining
unfolding filling join_steps
joins-elements =
    record {
      done = λ e s buffer h room.
          let made : identifier_of e ≡ s = holds-made h in
          let a = answer-good 9 (good_elements e) (length buffer) (identifier_of e) (sound-good e (holds-sound h)) (rw made room) in
          (a ∙ ap (λ (t : List ℕ). got (length t)) made, afterwards-got _ _ _ buffer a ∙ ap (λ (t : List ℕ). filled t buffer) made);
      bad = λ e buffer. (
        λ h k. never (cc (bad-refused 9 (good_elements e) (length buffer) (identifier_of e) (λ z. omega arith) h, sound-good e k)),
        λ n. answer-bad 9 (good_elements e) (length buffer) (identifier_of e) (decide (good_elements e) (λ g. absurd (n (good-sound e g))) (λ g. g)),
      );
      short = λ e buffer. (
        λ h.
            let f = short-refused 9 (good_elements e) (length buffer) (identifier_of e) (λ z. omega arith) h in
            (identifier_of e, sound-made e (good-sound e f.0), f.1),
        λ c. answer-short 9 (good_elements e) (length buffer) (identifier_of e) (sound-good e (holds-sound c.1)) (rw (holds-made c.1) c.2),
      );
    }

-- where the work was done, the buffers' fronts are the elements; and the buffer's front the identifier
fronts-all : (e buffers : Elements) → fronts (lengths e) (filled_all e buffers) ≡ e
fronts-all e buffers =
    rw (
      take-append_seam e.item (drop (length e.item) buffers.item),
      take-append_seam e.isil (drop (length e.isil) buffers.isil),
      take-append_seam e.set (drop (length e.set) buffers.set),
    ) refl

pub fronts-given : (leads : Bool) (s : List ℕ) (buffers : Elements) (n : Lengths) → (parting leads s buffers).answer ≡ got n → fronts n (parting leads s buffers).buffers ≡ elements_of leads (parts s)
fronts-given leads s buffers n h =
    let e : Elements = elements_of leads (parts s) in
    let g = done-given leads s buffers n h in
    ap₂ fronts (got-inj (sym h ∙ g.2.0)) g.2.1 ∙ fronts-all e buffers

pub made-given : (e : Elements) (buffer : List ℕ) (n : ℕ) → (joining e buffer).answer ≡ got n → (take n (joining e buffer).buffer ≡ identifier_of e) × Made (identifier_of e) e
unfolding filling join_steps
made-given e buffer n h =
    let s : List ℕ = identifier_of e in
    let long : n ≡ length s = sym (worked _ (length s) n h).1 in
    (ap₂ take long (afterwards-got _ n (filled s buffer) buffer h) ∙ take-append_seam s (drop (length s) buffer), sound-made e (good-sound e (good-got 9 (good_elements e) (length buffer) s h)))

-- what is put together takes apart to the same three elements
pub taken_back : TakesBack parting joining
taken_back e buffer n h buffers room =
    let leads : Bool = not (is_empty e.isil) in
    let m = made-given e buffer n h in
    subst (λ (t : List ℕ). DoneThree (parting leads t buffers) e buffers) (sym m.0) (parts-identifiers.done leads (identifier_of e) e buffers m.1 room)

-- what was taken apart puts together to the same characters
pub put_back : PutsBack parting joining
put_back leads s buffers n h buffer room =
    let e : Elements = elements_of leads (parts s) in
    let holds = (done-given leads s buffers n h).0 in
    let made : Made s e = subst (λ (l : Bool). Holds l s e) (sym (holds-leads holds)) holds in
    subst (λ (x : Elements). Done (joining x buffer) s buffer) (sym (fronts-given leads s buffers n h)) (joins-elements.done e s buffer made room)

-- ==== for a C host: 0 is returned only where the work is done, and then the results are the lengths

pub c-parts : (leads : Bool) (s : List ℕ) (buffers : Elements) (used : Lengths) (r : ℕ) (after : Elements) (used' : Lengths) → FillsThreeC (parting leads s buffers) used r after used' → r ≡ 0
    → (used' ≡ lengths (elements_of leads (parts s))) × (after ≡ filled_all (elements_of leads (parts s)) buffers)
unfolding parting part_gives one_gives gives or_else
c-parts leads s buffers used r after used' c e =
    let d = zero-done part_gives (part_steps leads (lengths buffers) (parts s)) (lengths (elements_of leads (parts s))) (parting-order leads (lengths buffers) (parts s)) refl (sym c.answered ∙ e) in
    (c.result ∙ ap (λ (a : Answer Lengths). or_else a used) d, c.left ∙ afterwards-got _ _ _ buffers d)

pub c-joins : (e : Elements) (buffer : List ℕ) (used r : ℕ) (after : List ℕ) (used' : ℕ) → FillsC (joining e buffer) used r after used' → r ≡ 0
    → (used' ≡ length (identifier_of e)) × (after ≡ filled (identifier_of e) buffer)
unfolding join_gives one_gives gives
c-joins e buffer used r after used' = filled_zero join_gives (join_steps (length buffer) e) (identifier_of e) buffer used r after used' (joining-order (length buffer) e) refl
