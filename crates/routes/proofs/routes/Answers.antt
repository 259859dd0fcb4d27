-- `routes::routes` meets its contract: what its lines give is what Selection.antt gives case by case, and so the routes. Assumes nothing.
use Rattle.std.proofs.Common.{◌≡◌, refl, ap, ◌∙◌, List, inl, inr, ℕ, arith}
use Rattle.network.specs.Packet.{offset}
use Rattle.network.specs.Routes.{routes}
use Rattle.network.specs.Selection.{sign, adaptive_x, adaptive_y, adaptive_z, selection}
use Rattle.routes.specs.Lines.{outputs_from, unless_zero}
use Rattle.routes.proofs.Laws.{along, Decided, by-x-first, by-y-first, by-z-first, are-cases, are-routes}
use Rattle.routes.proofs.routes.Goals as goal
use Rattle.routes.proofs.routes.Goals.{After-last_case-last}

-- what is called is the case of the definition
x-is : (c : After-last_case-last) → unless_zero c.adaptive-x.result ≡ adaptive_x c.sign-dx.result
x-is c = ap unless_zero c.adaptive-x.ensures ∙ along 1 2 adaptive_x refl refl refl c.sign-dx.result

y-is : (c : After-last_case-last) → unless_zero c.adaptive-y.result ≡ adaptive_y c.sign-dy.result
y-is c = ap unless_zero c.adaptive-y.ensures ∙ along 3 4 adaptive_y refl refl refl c.sign-dy.result

z-is : (c : After-last_case-last) → unless_zero c.adaptive-z.result ≡ adaptive_z c.sign-dz.result
z-is c = ap unless_zero c.adaptive-z.ensures ∙ along 5 6 adaptive_z refl refl refl c.sign-dz.result

decided : (c : After-last_case-last)
    → Decided c.sign-dx.result
    c.sign-dy.result
    c.sign-dz.result
    c.adaptive-x.result
    c.adaptive-y.result
    c.adaptive-z.result
    c.last_case-last.result
decided c = record { x-is = x-is c; y-is = y-is c; z-is = z-is c; last-is = c.last_case-last.ensures }

-- outputs that are the cases of the decided signs are those of the head, and so its routes
abbrev Right : After-last_case-last → List ℕ → Type 0
Right c r =
    (outputs_from 0 r ≡ routes c.args.q c.args.p)
    × (outputs_from 0 r ≡ selection c.args.q (sign (offset 0 c.args.p)) (sign (offset 1 c.args.p)) (sign (offset 2 c.args.p)))

right : (c : After-last_case-last) (r : List ℕ)
    → outputs_from 0 r
    ≡ selection c.args.q
    c.sign-dx.result
    c.sign-dy.result
    c.sign-dz.result
    → Right c r
right c r e =
    let cases =
    e
    ∙ are-cases c.args.q c.args.p
    c.sign-dx.ensures
    c.sign-dy.ensures
    c.sign-dz.ensures in
    (cases ∙ are-routes c.args.q c.args.p c.requires, cases)

-- queues 5 and 6
pub returns-in-5 : goal.returns-in-5
returns-in-5 c =
    let others = right (goal.at.returns-in-5 c).After-last_case-last _ (by-z-first (decided (goal.at.returns-in-5 c).After-last_case-last) (inl (omega arith, omega arith))) in
    record { each = refl; these = others.0; cases = others.1 }

-- queues 11 and 12
pub returns-in-5-2 : goal.returns-in-5-2
returns-in-5-2 c =
    let others = right (goal.at.returns-in-5-2 c).After-last_case-last _ (by-z-first (decided (goal.at.returns-in-5-2 c).After-last_case-last) (inr (omega arith, omega arith))) in
    record { each = refl; these = others.0; cases = others.1 }

-- queues 3 and 4
pub returns-in-3 : goal.returns-in-3
returns-in-3 c =
    let others = right (goal.at.returns-in-3 c).After-last_case-last _ (by-y-first (decided (goal.at.returns-in-3 c).After-last_case-last) (inl (omega arith, omega arith))) in
    record { each = refl; these = others.0; cases = others.1 }

-- queues 9 and 10
pub returns-in-3-2 : goal.returns-in-3-2
returns-in-3-2 c =
    let others = right (goal.at.returns-in-3-2 c).After-last_case-last _ (by-y-first (decided (goal.at.returns-in-3-2 c).After-last_case-last) (inr (omega arith, omega arith))) in
    record { each = refl; these = others.0; cases = others.1 }

-- queues 0, 1 and 2
pub returns-in-0 : goal.returns-in-0
returns-in-0 c =
    let others = right (goal.at.returns-in-0 c).After-last_case-last _ (by-x-first (decided (goal.at.returns-in-0 c).After-last_case-last) (inl c.in-0.is)) in
    record { each = refl; these = others.0; cases = others.1 }

-- queues 7 and 8
pub returns-in-0-2 : goal.returns-in-0-2
returns-in-0-2 c =
    let others = right (goal.at.returns-in-0-2 c).After-last_case-last _ (by-x-first (decided (goal.at.returns-in-0-2 c).After-last_case-last) (inr (omega arith, omega arith))) in
    record { each = refl; these = others.0; cases = others.1 }
