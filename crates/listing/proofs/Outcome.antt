-- What reading hands to the listing: the sheet of the tag's elements, or a refusal. Either decides what is listed.
use mathlib.Core.Path.{◌≡◌, sym, ap, ◌∙◌}
use Prim.Native.Nat.{ℕ, ◌≤◌, ◌<◌}
use native.Mathlib.Omega.{arith}
use mathlib.Core.Bool.{true}
use mathlib.Core.List.{List}
use lib.ListN.{length, take, drop}
use lib.Seq.{take-append_seam}
use borrow.Author.Tests.{leb-true}
use Rattle.std.specs.Prelude.{Result, Ok, Err}
use Rattle.format.specs.Answers.{Refusal, plain, placed, got, refused, in_order, Passed, FirstRefusal}
use Rattle.format.specs.Pages.{page_size}
use Rattle.format.specs.Sheet.{Entry, sheet_of, fitting, entries_in, entries}
use Rattle.format.specs.Reading.{content_in}
use Rattle.format.specs.Calls.{sheet_in, read_steps, reading}
use Rattle.format.specs.Numbers.{reason_number, damage_number, refusal_given, told, refusal_number, refusal_place, Reads}
use Rattle.format.specs.declared.Reason.{Reason}
use Rattle.format.specs.declared.Reason.TheVariants as reason
use Rattle.format.specs.declared.Damage.{Damage}
use Rattle.format.specs.declared.Damage.TheVariants as block
use Rattle.format.specs.declared.Refusal as code
use Rattle.format.specs.declared.Refusal.TheVariants as refusal
use Rattle.format.proofs.Answers.{next-inv, works, worked, refuses, refused-first, afterwards-got}
use Rattle.format.proofs.Readable.{on-readable}
use Rattle.format.proofs.Damages.{damage-inside}
use Rattle.format.proofs.Layouts.{size-most}
use Rattle.format.proofs.Refusals as refusals
use Rattle.format.proofs.Sheets.{fit_count, entries-in}
use Rattle.listing.specs.Listing.{elements_text, refused_text, sheet_room, listed, listing}

-- ---- when what is listed

-- where every step of reading is passed, the elements
pub elements-listed : (t : List ℕ) → Passed (read_steps page_size sheet_room t) → listing t ≡ elements_text (entries (content_in t))
unfolding listed listing
elements-listed t p = ap (listed t) (works (read_steps page_size sheet_room t) tt p)

-- at the first refusal, its line
pub refused-listed : (t : List ℕ) (x : Refusal) → FirstRefusal x (read_steps page_size sheet_room t) → listing t ≡ refused_text x
unfolding listed listing
refused-listed t x f = ap (listed t) (refuses x (read_steps page_size sheet_room t) tt f)

-- ---- the answer of reading into a buffer z as long as sheet_room

answer-is : (t z s : List ℕ) (a b : Result ℕ code.Refusal) → length z ≡ sheet_room → Reads t z a s → a ≡ b
    → in_order (read_steps page_size sheet_room t) (length (sheet_in t)) ≡ told b
unfolding reading
answer-is t z s a b hz r e =
    ap (λ (room : ℕ). in_order (read_steps page_size room t) (length (sheet_in t))) (sym hz) ∙ sym r.answered ∙ ap told e

-- what the last two steps say
steps-passed : (room : ℕ) (t : List ℕ) (a n : ℕ) → in_order (read_steps page_size room t) a ≡ got n
    → (fitting (entries (content_in t)) ≡ true) × (length (sheet_in t) ≤ room)
unfolding read_steps
steps-passed room t a n e =
    let size = next-inv _ _ _ a n e in
    let readable = on-readable t _ a n size.1 in
    let fit = next-inv _ _ _ a n readable.1 in
    let short = next-inv _ _ _ a n fit.1 in
    (fit.0, leb-true (length (sheet_in t)) room short.0)

-- the first n bytes of s, which are lent on, are the sheet of the entries that it names, and those are listed
pub record Sheet (t s : List ℕ) (n : ℕ) : Type 0 where
  pub short : n ≤ sheet_room
  pub size : length (take n s) ≤ sheet_room
  pub own : sheet_of (entries_in (take n s)) ≡ take n s
  pub text : elements_text (entries_in (take n s)) ≡ listing t

pub sheet-listed : (t z s : List ℕ) (a : Result ℕ code.Refusal) (n : ℕ) → length z ≡ sheet_room → Reads t z a s → a ≡ Ok n → Sheet t s n
unfolding reading
sheet-listed t z s a n hz r e =
    let es : List Entry = entries (content_in t) in
    let answer = answer-is t z s a (Ok n) hz r e in
    let w = worked (read_steps page_size sheet_room t) (length (sheet_in t)) n answer in
    let p = steps-passed sheet_room t (length (sheet_in t)) n answer in
    let all : n ≡ length (sheet_in t) = omega (arith, w.1) in
    let front : take n s ≡ sheet_in t =
    ap (λ (m : ℕ). take m s) all
    ∙ ap (take (length (sheet_in t))) (r.left ∙ afterwards-got _ n _ z (sym r.answered ∙ ap told e))
    ∙ take-append_seam (sheet_in t) (drop (length (sheet_in t)) z) in
    let named : entries_in (take n s) ≡ es = ap entries_in front ∙ entries-in es (fit_count es p.0) in
    record {
      short = omega (arith, w.1, p.1);
      size = omega (arith, ap length front, p.1);
      own = ap sheet_of named ∙ sym front;
      text = ap elements_text named ∙ sym (elements-listed t w.0);
    }

-- ---- a refusal

-- its number is short enough for a line
reason-short : (r : Reason) → reason_number r < 10000
reason-short reason.Size = omega arith
reason-short r = omega arith

damage-short : (d : Damage) → damage_number d < 10000
damage-short block.Length = omega arith
damage-short d = omega arith

number-short : (x : code.Refusal) → refusal_number (refusal_given x) < 10000
number-short (refusal.Plain r) = reason-short r
number-short (refusal.Placed d p) = damage-short d

-- its place is short enough for a line
short : (room : ℕ) (t : List ℕ) (a : ℕ) (x : Refusal) → in_order (read_steps page_size room t) a ≡ refused x → refusal_place x 0 < 10000
short room t a (plain k) e = omega arith
short room t a (placed k p) e =
    let s = refusals.read-spoilt page_size room t a k p e in
    omega (arith, (damage-inside t k p s.1.damage).1, size-most page_size (length t) s.0)

-- refusal x is listed
pub record Listed (t : List ℕ) (x : Refusal) : Type 0 where
  pub number : refusal_number x < 10000
  pub place : refusal_place x 0 < 10000
  pub text : refused_text x ≡ listing t

pub refusal-listed : (t z s : List ℕ) (a : Result ℕ code.Refusal) (x : code.Refusal) → length z ≡ sheet_room → Reads t z a s → a ≡ Err x → Listed t (refusal_given x)
refusal-listed t z s a x hz r e =
    let answer = answer-is t z s a (Err x) hz r e in
    let n : ℕ = length (sheet_in t) in
    record {
      number = number-short x;
      place = short sheet_room t n (refusal_given x) answer;
      text = sym (refused-listed t (refusal_given x) (refused-first (refusal_given x) (read_steps page_size sheet_room t) n answer));
    }
