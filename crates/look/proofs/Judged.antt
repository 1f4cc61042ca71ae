-- What looking leaves; what is known of a tag that has passed its steps, and how a call that begins with them goes on.
use Rattle.std.specs.Prelude.{Ok, Err}
use mathlib.Core.Path.{◌≡◌, sym, ap, ◌∙◌}
use Prim.Native.Nat.{ℕ, ◌≤◌}
use mathlib.Core.Bool.{true, false}
use mathlib.Core.List.{List, [], ◌++◌, append-nil}
use lib.ListN.{length}
use Rattle.format.specs.Answers.{Refusal, got, refused, Step, in_order}
use Rattle.format.specs.Bytes.{bytes}
use Rattle.format.specs.Pages.{page_size, good_size}
use Rattle.format.specs.Elements.{numbers, clash, values_at, sound}
use Rattle.format.specs.Reading.{content_in, tag_steps, Readable}
use Rattle.format.specs.Numbers.{refusal_given}
use Rattle.format.specs.declared.Part.{Part}
use Rattle.format.specs.declared.Refusal as code
use Rattle.format.proofs.Answers.{next-inv, in-order-append, then-no, works, worked, afterwards-got, refused-with}
use Rattle.format.proofs.Readable.{on-readable}
use Rattle.format.proofs.Layouts.{size-most}
use Rattle.format.proofs.Slots.{sound-parts}
use Rattle.format.proofs.Sound.{read-sound}
use Rattle.look.specs.declared.View.{View}
use Rattle.look.specs.View.{view_in, look_steps, judged, looking, Looked, Sighted}

-- ---- what looking left

module _ {t : List ℕ} {row row' : List Part} {made made' : List ℕ} where
  pub looked-sighted : {v : View} → Looked t row made (Ok v) row' made' → Sighted t made row' made' v
  unfolding looking
  looked-sighted {v} h =
      let a : looking t ≡ got v = sym h.answered in
      let w = worked (look_steps t) (view_in t) v a in
      record {
        seen = works (look_steps t) tt w.0;
        view-is = sym w.1;
        row-is = h.row-left ∙ afterwards-got (looking t) v _ _ a;
        made-is = h.made-left ∙ afterwards-got (looking t) v _ _ a;
      }

  pub looked-refused : {x : code.Refusal} → Looked t row made (Err x) row' made' → judged t ≡ refused (refusal_given x)
  unfolding looking
  looked-refused {x} h = refused-with (look_steps t) (view_in t) tt (refusal_given x) (sym h.answered)

-- ---- the steps of looking

-- a call that begins with these steps refuses likewise
pub steps-refused : {A : Type 0} (t : List ℕ) (ss : List Step) (a : A) (x : Refusal) → judged t ≡ refused x → in_order (look_steps t ++ ss) a ≡ refused x
steps-refused t ss a x j = in-order-append (look_steps t) ss a ∙ then-no (judged t) (λ _. in_order ss a) x j

module _ (t : List ℕ) (j : judged t ≡ got tt) where
  pub seen_size : good_size page_size (length t) ≡ true
  seen_size = (next-inv 1 (good_size page_size (length t)) (tag_steps t) tt tt j).0

  pub seen-readable : Readable t
  seen-readable = (on-readable t [] tt tt (ap (λ (ss : List Step). in_order {A = Unit {0}} ss tt) (append-nil (tag_steps t)) ∙ (next-inv 1 (good_size page_size (length t)) (tag_steps t) tt tt j).1)).0

  pub seen_most : length t ≤ 2048
  seen_most = size-most page_size (length t) seen_size

  module _ (y : bytes t ≡ true) where
    pub seen-sound : sound (content_in t) ≡ true
    seen-sound = read-sound t y seen-readable

    pub seen-values : values_at numbers (content_in t).slots ≡ true
    seen-values = (sound-parts (content_in t) seen-sound).values

    pub seen-clear : clash (content_in t).slots ≡ false
    seen-clear = (sound-parts (content_in t) seen-sound).clear
