use Rattle.dm_cmd_explore.proofs.Names.{ℕ, ap, subst, sym, ◌∙◌, true, ◌≡◌, option_map, err_passed, GivesNone, IsOutside, are_for, question_of}
use Rattle.dm_cmd_explore.proofs.Exploring.{all_fit, answered_so, asked_by, moves_fit, no_move, no_process, same_bounds, stuck_fit}
use Rattle.dm_cmd_explore.proofs.explore.answer_of.Goals as goal

pub returns-in_err-requests-clause-none : goal.returns-in_err-requests-clause-none
returns-in_err-requests-clause-none c =
    err_passed (GivesNone _ c.args.exploration.now) c.from_residual.result c.in_err-requests.field-0.0 c.from_residual.ensures
    (no_move _ c.args.exploration.now _ (subst (λ (n : ℕ). IsOutside (moves_fit n c.args.exploration.now) c.in_err-requests.field-0.0) c.len-machines.ensures c.in_err-requests.ensures.none))

pub returns-in_err-pids-clause-none : goal.returns-in_err-pids-clause-none
returns-in_err-pids-clause-none c =
    err_passed (GivesNone _ c.args.exploration.now) c.from_residual-in_err-pids.result c.in_err-pids.field-0.0 c.from_residual-in_err-pids.ensures
    (no_process _ c.args.exploration.now _ (subst (λ (n : ℕ). IsOutside (stuck_fit n c.args.exploration.now) c.in_err-pids.field-0.0) c.len-machines.ensures c.in_err-pids.ensures.none))

pub explore-requires : goal.explore-requires
explore-requires c =
    let e = c.args.exploration.now in
    let named = subst (λ (n : ℕ). are_for n e ≡ true) c.len-machines.ensures (all_fit c.len-machines.result e c.in_ok-requests.ensures.named c.in_ok-pids.ensures.named) in
    record {
      law = c.requires.law;
      valid = c.requires.valid;
      asked = asked_by _ e _ (same_bounds e c.in_ok-requests.requests.items c.in_ok-requests.ensures.asked) named c.requires.within;
    }

pub returns-in-Ok-clause-answer : goal.returns-in-Ok-clause-answer
returns-in-Ok-clause-answer c =
    let e = c.args.exploration.now in
    let line = option_map (λ l. l.now) c.args.line in
    answered_so c.args.system line e _ _ _ (same_bounds e c.in_ok-requests.requests.items c.in_ok-requests.ensures.asked)
    (c.question_of.ensures ∙ ap (question_of line) (c.as_slice.ensures.value ∙ c.in_ok-pids.ensures.pids)) c.in-Ok.ensures.answer c.in-Ok.ensures.went

pub returns-in-Ok-clause-named : goal.returns-in-Ok-clause-named
returns-in-Ok-clause-named c =
    subst (λ (n : ℕ). are_for n c.args.exploration.now ≡ true) c.len-machines.ensures (all_fit c.len-machines.result c.args.exploration.now c.in_ok-requests.ensures.named c.in_ok-pids.ensures.named)
