-- `fields::Page::put_number` meets its contract: the goals that the check does not find by itself. Assumes nothing.
use Rattle.std.proofs.Common.{◌≡◌, arith, refl, ◌+◌, ◌<◌}
use Rattle.sheet.proofs.Numerals.{numeral-some}
use Rattle.fields.proofs.Digits.{behind-none, behind_more, behind-place, one-digit, behind-all}
use Rattle.fields.proofs.Page.put_number.Goals as goal
use Rattle.fields.proofs.Page.put_number.Goals.{After-loop-i}

pub loop-i-init : goal.loop-i-init
loop-i-init c =
    let p = c.args.self.now in
    let e = c.number_length.ensures in
    let some = numeral-some c.args.base c.requires.le_base.0 c.args.n in
    (rw e (behind-none c.args.base c.args.n c.requires.le_base.0 p.out.now p.at c.requires.room), omega arith, refl, refl)

pub loop-i-preserved : goal.loop-i-preserved
loop-i-preserved c =
    let p = c.args.self.now in
    let t = c.loop-i-test.true in
    let i = c.loop-i.invariant in
    (behind_more c.args.base c.args.n c.requires.le_base.0 p.out.now p.at c.requires.room i.0 (omega arith) (omega arith), omega arith, i.2, i.3)

-- behind the loop one digit is left
last-place : (c : After-loop-i) → c.loop-i.i ≡ c.args.self.now.at + 1
last-place c =
    let l = c.loop-i.invariant.1 in
    let t = c.loop-i-test.false in
    omega arith

digit-left : (c : After-loop-i) → c.loop-i.rest < c.args.base
digit-left c =
    let p = c.args.self.now in
    one-digit c.args.base c.args.n c.requires.le_base.0 p.out.now p.at c.requires.room c.loop-i.invariant.0 (last-place c)

pub overflow_cast-self-2 : goal.overflow_cast-self-2
overflow_cast-self-2 c =
    let d = digit-left (goal.at.overflow_cast-self-2 c).After-loop-i in
    let ten = c.requires.le_base.1 in
    record { fits = omega arith }

pub overflow_add-self-2 : goal.overflow_add-self-2
overflow_add-self-2 c =
    let d = digit-left (goal.at.overflow_add-self-2 c).After-loop-i in
    let ten = c.requires.le_base.1 in
    record { fits = omega arith }

pub bounds-self-at : goal.bounds-self-at
bounds-self-at c =
    let p = c.args.self.now in
    behind-place c.args.base c.args.n c.requires.le_base.0 p.out.now p.at c.requires.room c.loop-i.invariant.0 (last-place (goal.at.bounds-self-at c).After-loop-i)

pub returns : goal.returns
returns c =
    let p = c.args.self.now in
    let k = behind-all c.args.base c.args.n c.requires.le_base.0 p.out.now p.at c.requires.room c.loop-i.invariant.0 (last-place (goal.at.returns c).After-loop-i) in
    record { put = rw c.number_length.ensures k; same_reference = c.loop-i.invariant.3 }
