-- `put_word`: in each case the characters of the word are stored, one behind the other.
use native.Mathlib.Omega.{arith}
use lib.ListN.{length-set}
use Rattle.words.proofs.Words.{low-range, high-range}
use Rattle.decoding.proofs.Meaning.{first-value, room-two, room-three, put-held, put_one, put_two, put_three}
use Rattle.decoding.proofs.Characters.put_word.Goals as goal

pub overflow_cast-text : goal.overflow_cast-text
overflow_cast-text c = omega (arith, high-range c.args.w c.requires.0)

pub returns-then-w-ge64512 : goal.returns-then-w-ge64512
returns-then-w-ge64512 c =
    let a = c.args in
    put-held a.w c.requires.0 a.text.now a.at c.requires.1 c.if-w-ge64512.true

pub overflow_sub-v : goal.overflow_sub-v
overflow_sub-v c = (low-range c.args.w c.requires.0 c.if-w-ge64512.false).0

pub of-requires : goal.of-requires
of-requires c = first-value c.args.w c.requires.0 c.if-w-ge64512.false

pub returns-in-0-default : goal.returns-in-0-default
returns-in-0-default c =
    let a = c.args in
    put_one a.w c.requires.0 a.text.now a.at c.requires.1 c.if-w-ge64512.false _ c.of.ensures c.in-0-default.is-0

pub bounds-text-at-in_default-eq0 : goal.bounds-text-at-in_default-eq0
bounds-text-at-in_default-eq0 c =
    let a = c.args in
    simp length-set (room-two a.w c.requires.0 a.text.now a.at c.requires.1 c.if-w-ge64512.false c.in_default-eq0.is-0.1)

pub returns-in_default-eq0 : goal.returns-in_default-eq0
returns-in_default-eq0 c =
    let a = c.args in
    let is = c.in_default-eq0 in
    put_two a.w c.requires.0 a.text.now a.at c.requires.1 c.if-w-ge64512.false is.is-0.1 _ _ c.of.ensures c.of-in_default-eq0.ensures is.is-1

pub bounds-text-at-in_default : goal.bounds-text-at-in_default
bounds-text-at-in_default c =
    let a = c.args in
    simp length-set (room-two a.w c.requires.0 a.text.now a.at c.requires.1 c.if-w-ge64512.false c.in_default.is-0.1)

pub bounds-text-at-in_default-2 : goal.bounds-text-at-in_default-2
bounds-text-at-in_default-2 c =
    let a = c.args in
    let is = c.in_default in
    simp length-set (room-three a.w c.requires.0 a.text.now a.at c.requires.1 c.if-w-ge64512.false is.is-0.1 is.is-1.1)

pub returns-in_default : goal.returns-in_default
returns-in_default c =
    let a = c.args in
    let is = c.in_default in
    put_three a.w c.requires.0 a.text.now a.at c.requires.1 c.if-w-ge64512.false is.is-0.1 _ _ _ c.of.ensures c.of-in_default.ensures c.of-in_default-2.ensures is.is-1.1
