use Rattle.dm_draw.proofs.Names.{rules, ◌≡◌, ◌++◌, ◌∷◌, [], List, length, sym, ap, subst, ◌∙◌, All, Directive, IsDrawn, directive_drawn, directives_by, state_behind}
use Rattle.dm_draw.proofs.Drawing.{drawn_none, state_none, drawn_more, state_more}
use Rattle.dm_draw.proofs.Within.{directive_fits, directives_count, directives_fit}
use Rattle.dm_draw.proofs.directives.drill_directives.Goals as goal

pub loop-init : goal.loop-init
loop-init c = record {
  drawn = c.new-directives.ensures.items ∙ sym (drawn_none (directive_drawn c.args.machines) c.args.seed);
  state = c.new-generator.ensures ∙ sym (state_none (directive_drawn c.args.machines) c.args.seed);
}

pub loop-preserved : goal.loop-preserved
loop-preserved c =
    let draw = directive_drawn c.args.machines in
    let x = c.args.seed in
    let n = c.loop.counter in
    let said : c.draw_directive.result ≡ (draw (state_behind draw x n)).directive = c.draw_directive.ensures.directive ∙ ap (λ s. (draw s).directive) c.loop.invariant.state in
    record {
      drawn = c.in_ok-push.ensures.items ∙ (ap (λ ds. ds ++ c.draw_directive.result ∷ []) c.loop.invariant.drawn ∙ (ap (λ (d : Directive). directives_by draw x n ++ d ∷ []) said ∙ sym (drawn_more draw x n)));
      state = c.draw_directive.ensures.state ∙ (ap (λ s. (draw s).state) c.loop.invariant.state ∙ sym (state_more draw x n));
    }

pub returns-clause-drawn : goal.returns-clause-drawn
returns-clause-drawn c = search rules

pub returns-clause-each : goal.returns-clause-each
returns-clause-each c = subst (All (IsDrawn c.args.machines)) (sym (returns-clause-drawn c)) (directives_fit c.args.machines (directive_drawn c.args.machines) c.args.seed c.args.lines (λ s. directive_fits c.args.machines s c.requires.0))

pub returns-clause-count : goal.returns-clause-count
returns-clause-count c = ap (λ (ds : List Directive). length ds) (returns-clause-drawn c) ∙ directives_count (directive_drawn c.args.machines) c.args.seed c.args.lines
