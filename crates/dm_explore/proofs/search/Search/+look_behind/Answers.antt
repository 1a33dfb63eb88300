use Rattle.std.specs.Prelude.{◌≡◌, ◌≢◌, ◌+◌, ◌-◌, ℕ, suc, IfOk}
use Rattle.std.proofs.Common.{refl, sym, ap, ◌∙◌, subst, arith}
use Rattle.dm_explore.specs.Places.{Place}
use Rattle.dm_explore.specs.Search.{IsSearch, IsSearching, LooksBehind}
use Rattle.dm_explore.proofs.Looking.{IsLooking, all_offered, choice_fits, looking_ended, looking_first, looking_more, looking_over, looking_worn, searching_behind, searching_one, searching_still, went_so, worn_so}
use Rattle.dm_explore.proofs.Searching.{goes_by_both}
use Rattle.dm_explore.proofs.search.Search.+look_behind.Goals as goal
use Rattle.dm_explore.proofs.search.Search.+look_behind.Goals.{then-branch+in_ok-looked+in-Nothing, else-branch}

pub judge-requires : goal.judge-requires
judge-requires t c = let none : c.args.left ≡ 0 = omega arith in record { search = subst (IsSearching c.args.self.now) none c.requires.search }

pub returns-then-left-eq0-clause-looks : goal.returns-then-left-eq0-clause-looks
returns-then-left-eq0-clause-looks t c =
    let none : c.args.left ≡ 0 = omega arith in
    subst (λ k. IfOk c.judge.result (λ r. (p : Place) → IsSearch c.args.self.now p → LooksBehind c.args.self.now c.judge.new.self p k r)) (sym none) c.judge.ensures.looks

pub go_there-requires-clause-search : goal.go_there-requires-clause-search
go_there-requires-clause-search t c = let more : c.args.left ≢ 0 = omega arith in searching_one c.args.self.now c.args.left c.requires.search more

pub open_choices-requires-clause-world : goal.open_choices-requires-clause-world
open_choices-requires-clause-world t c = let s = c.requires.search in ((c.in_ok-go_there.ensures.there s.place s.search).running c.in_ok-go_there.ensures.is).world

pub open_choices-requires-clause-past : goal.open_choices-requires-clause-past
open_choices-requires-clause-past t c = let s = c.requires.search in record { done = s.place.done; is = (c.in_ok-go_there.ensures.there s.place s.search).past }

pub loop-step-init : goal.loop-step-init
loop-step-init t c =
    looking_first c.args.self.now c.go_there.new.self c.as_slice-step-items.result.now (c.args.left - 1) c.go_there.ensures.by c.go_there.ensures.tried c.in_ok-go_there.ensures.there
    (λ p h. c.as_slice-step-items.ensures.value ∙ all_offered c.args.self.now c.go_there.new.self p c.in_ok-steps.steps.items c.go_there.ensures.by (c.in_ok-go_there.ensures.there p h) c.in_ok-go_there.ensures.is c.in_ok-steps.ensures)

pub go_on-requires-clause-search : goal.go_on-requires-clause-search
go_on-requires-clause-search t c =
    let more : c.args.left ≢ 0 = omega arith in
    searching_still c.args.self.now c.loop-step.self c.as_slice-step-items.result.now c.loop-step.step-index c.args.left (c.args.left - 1) c.requires.search more c.loop-step.invariant

pub go_on-requires-clause-step : goal.go_on-requires-clause-step
go_on-requires-clause-step t c =
    let s = c.requires.search in
    choice_fits c.args.self.now c.loop-step.self c.as_slice-step-items.result.now c.loop-step.step-index (c.args.left - 1) _ _ s.place c.loop-step.invariant s.search c.loop-step-test.true refl

pub look_behind-requires : goal.look_behind-requires
look_behind-requires t c =
    let size : c.args.left ≡ suc (c.args.left - 1) = omega arith in
    let least = c.decreases in (
      omega arith,
      (
        c.requires.law,
        searching_behind c.args.self.now c.loop-step.self c.go_on.new.self c.as_slice-step-items.result.now c.loop-step.step-index c.args.left (c.args.left - 1) _ c.requires.search size c.loop-step.invariant
            (went_so c.loop-step.self c.go_on.new.self _ c.in_ok-go_on.field-0 c.if-branch.true c.in_ok-go_on.ensures.goes),
      ),
    )

pub returns-in_default : goal.returns-in_default
returns-in_default t c =
    let size : c.args.left ≡ suc (c.args.left - 1) = omega arith in
    record {
      looks = looking_ended c.args.self.now c.loop-step.self c.go_on.new.self c.look_behind.new.self c.as_slice-step-items.result.now c.loop-step.step-index (c.args.left - 1) c.args.left _ _ c.in_ok-looked.looked c.loop-step.invariant c.loop-step-test.true refl
          c.go_on.ensures.by c.go_on.ensures.tried (went_so c.loop-step.self c.go_on.new.self _ c.in_ok-go_on.field-0 c.if-branch.true c.in_ok-go_on.ensures.goes) c.in_ok-looked.ensures.looks c.in_default.not-Nothing size;
      by = goes_by_both c.args.self.now c.go_on.new.self c.look_behind.new.self (goes_by_both c.args.self.now c.loop-step.self c.go_on.new.self c.loop-step.invariant.goes c.go_on.ensures.by) c.look_behind.ensures.by;
    }

pub loop-step-preserved : goal.loop-step-preserved
loop-step-preserved t c =
    let old = c.args.self.now in
    let mid = c.loop-step.self in
    let on = c.go_on.new.self in
    let es = c.as_slice-step-items.result.now in
    let i : ℕ = c.loop-step.step-index in
    let left : ℕ = c.args.left - 1 in
    elim c.if-branch.branch [
      | then-branch+in_ok-looked+in-Nothing w ↦ subst (λ s. IsLooking old s es (i + 1) left) (sym w.self-is)
          (looking_more old mid on w.look_behind.new.self w.go_back.new.self es i left _ _ w.in_ok-looked.looked c.loop-step.invariant c.loop-step-test.true refl c.go_on.ensures.by c.go_on.ensures.tried
          (went_so mid on _ c.in_ok-go_on.field-0 w.if-branch.true c.in_ok-go_on.ensures.goes) w.look_behind.ensures.by w.in_ok-looked.ensures.looks w.in-Nothing.is w.go_back.ensures.by w.go_back.ensures.tried w.go_back.ensures.back)
      | else-branch w ↦ subst (λ s. IsLooking old s es (i + 1) left) (sym w.self-is)
          (looking_worn old mid on es i left _ _ c.loop-step.invariant c.loop-step-test.true refl c.go_on.ensures.by c.go_on.ensures.tried (worn_so mid on _ c.in_ok-go_on.field-0 w.if-branch.false c.in_ok-go_on.ensures.goes))
    ]

pub returns-clause-looks : goal.returns-clause-looks
returns-clause-looks t c =
    let size : c.args.left ≡ suc (c.args.left - 1) = omega arith in
    λ p h. looking_over c.args.self.now c.loop-step.self c.as_slice-step-items.result.now c.loop-step.step-index (c.args.left - 1) c.args.left c.loop-step.invariant c.loop-step-test.false size p h
