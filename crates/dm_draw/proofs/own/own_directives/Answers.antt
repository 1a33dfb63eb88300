use Rattle.dm_draw.proofs.Names.{rules, ◌≡◌, ◌++◌, ◌∷◌, [], List, length, sym, ap, subst, ◌∙◌, All, Directive, IsDrawn, directives_by, own_drawn, state_behind}
use Rattle.dm_draw.proofs.Drawing.{drawn_none, state_none, drawn_more, state_more}
use Rattle.dm_draw.proofs.Within.{directives_count, directives_fit, own_fits}
use Rattle.dm_draw.proofs.own.own_directives.Goals as goal

pub loop-init : goal.loop-init
loop-init c = record {
  drawn = c.new-directives.ensures.items ∙ sym (drawn_none (own_drawn c.args.machines c.args.processes.now) c.args.seed);
  state = c.new-generator.ensures ∙ sym (state_none (own_drawn c.args.machines c.args.processes.now) c.args.seed);
}

pub loop-preserved : goal.loop-preserved
loop-preserved c =
    let draw = own_drawn c.args.machines c.args.processes.now in
    let x = c.args.seed in
    let n = c.loop.counter in
    let said : c.draw_own.result ≡ (draw (state_behind draw x n)).directive = c.draw_own.ensures.directive ∙ ap (λ s. (draw s).directive) c.loop.invariant.state in
    record {
      drawn = c.in_ok-push.ensures.items ∙ (ap (λ ds. ds ++ c.draw_own.result ∷ []) c.loop.invariant.drawn ∙ (ap (λ (d : Directive). directives_by draw x n ++ d ∷ []) said ∙ sym (drawn_more draw x n)));
      state = c.draw_own.ensures.state ∙ (ap (λ s. (draw s).state) c.loop.invariant.state ∙ sym (state_more draw x n));
    }

pub returns-clause-drawn : goal.returns-clause-drawn
returns-clause-drawn c = search rules

pub returns-clause-each : goal.returns-clause-each
returns-clause-each c = subst (All (IsDrawn c.args.machines)) (sym (returns-clause-drawn c)) (directives_fit c.args.machines (own_drawn c.args.machines c.args.processes.now) c.args.seed c.args.lines (λ s. own_fits c.args.machines c.args.processes.now s c.requires.0))

pub returns-clause-count : goal.returns-clause-count
returns-clause-count c = ap (λ (ds : List Directive). length ds) (returns-clause-drawn c) ∙ directives_count (own_drawn c.args.machines c.args.processes.now) c.args.seed c.args.lines
