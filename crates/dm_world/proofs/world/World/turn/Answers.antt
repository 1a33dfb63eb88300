use Rattle.dm_world.proofs.Names.{◌≡◌, Pid, World, ActedSome, rules, so_far, subst, sym, ap, ◌∙◌, turn, node_in, ended_in, over_in, with_over}
use Rattle.dm_schedule.specs.declared.Step.TheVariants as step
use Rattle.dm_world.proofs.Rereading.{turn_back}
use Rattle.dm_world.proofs.Stepping.{acted_size, over_there, turn_stepped, turn_world, written}
use Rattle.dm_world.proofs.world.World.turn.Goals as goal

pub returns-clause-meets : goal.returns-clause-meets
returns-clause-meets c =
    let old = c.args.self.now in
    let now = c.keep_over.new.self in
    let ys = c.take_turn.new.nodes in
    let head = c.in_ok-lines.lines.items in
    let said = c.take_turn.new.lines.items in
    let before = so_far old.wires head in
    let after = so_far c.take_turn.new.wires said in
    let o = turn old.boot (node_in old.boot old.nodes.items c.args.m) in
    let rest = c.keep_over.ensures.rest in
    let acts = rw c.deref_mut.ensures.value at c.in_ok-take_turn.ensures.answers in
    let spoken = subst (λ w. ActedSome old.boot old.nodes.items ys c.args.m before (so_far w said) o) (sym (ap (λ (w : World). w.wires) rest)) acts in
    let there = written old.nodes ys (acted_size old.boot old.nodes.items ys c.args.m before after o acts) in
    let are = ap (λ (w : World). w.nodes.items) rest ∙ there in
    let boot = ap (λ (w : World). w.boot) rest in
    let kept : (p : Pid) → ended_in now.ended p ≡ with_over (ended_in old.ended) (over_in o) p =
    λ p. c.in_ok-keep_over.ensures.ended p
    ∙ ap (λ ns. with_over (ended_in old.ended) (node_in old.boot ns c.args.m).kernel.over p) there
    ∙ ap (λ x. with_over (ended_in old.ended) x p) (over_there old.boot old.nodes.items ys c.args.m before after o acts) in
    record {
      answers = turn_stepped old now ys (with_over (ended_in old.ended) (over_in o)) (step.Turn c.args.m) c.args.m head said o spoken c.in_ok-lines.ensures are
          (record { ended = kept; groups = ap (λ (w : World). w.groups) rest; boot = boot });
      world = turn_world old now ys c.args.m before after o c.requires.world acts are boot;
      again = turn_back old.boot old.nodes.items ys c.args.m before after o acts;
      whole = search rules;
      boot = boot;
    }
