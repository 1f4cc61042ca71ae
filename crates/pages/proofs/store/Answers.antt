-- `pages::store` meets its contract. The loop's invariant: the image's pages that it has passed stand on the tag, and those that differed are counted.
use mathlib.Core.Path.{◌≡◌, sym, ◌∙◌}
use native.Mathlib.Omega.{arith}
use Rattle.format.specs.Pages.{page_size, differs}
use Rattle.pages.proofs.Counting.{count-at-most}
use Rattle.pages.proofs.Storing.{no-pages, one-stored, one-there, all-stored}
use Rattle.pages.proofs.store.Goals.{then-page_differs, else-page_differs}
use Rattle.pages.proofs.store.Goals as goal

pub loop-i-init : goal.loop-i-init
loop-i-init c = no-pages page_size c.args.image.now c.args.tag.now

pub overflow_add-n : goal.overflow_add-n
overflow_add-n c =
    let a = c.args in
    omega (arith, count-at-most (differs page_size a.tag.now a.image.now) c.loop-i.i)

pub loop-i-preserved : goal.loop-i-preserved
loop-i-preserved c =
    let a = c.args in
    let l = c.loop-i in
    let d = c.page_differs.ensures in
    elim c.if-page_differs.branch [
      | then-page_differs w ↦ rw w.n-is (one-stored page_size a.image.now a.tag.now l.tag l.n l.i l.invariant (omega arith) (omega arith) c.if-page_differs.tag (sym d ∙ w.if-page_differs.true) (w.tag-is ∙ w.store_page.ensures))
      | else-page_differs w ↦ rw (w.tag-is, w.n-is) (one-there page_size a.image.now a.tag.now l.tag l.n l.i l.invariant (omega arith) (omega arith) (sym d ∙ w.if-page_differs.false))
    ]

pub returns : goal.returns
returns c =
    let a = c.args in
    let l = c.loop-i in
    let e : l.i ≡ c.shared_pages-i-end.result = omega arith in
    all-stored page_size a.image.now a.tag.now l.tag l.n l.i l.invariant (e ∙ c.shared_pages-i-end.ensures.pages-are)
