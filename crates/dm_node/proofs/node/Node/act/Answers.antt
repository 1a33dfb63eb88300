use Rattle.dm_node.proofs.Names.{◌∷◌, sym, ap, subst, ◌∙◌, Ok, into_iter_items, All, All-head, All-rest, IsLawfulPart, acts, routes, Answers, node_state, so_far}
use Rattle.dm_kernel.specs.declared.part.Part.TheVariants.{Routes}
use Rattle.dm_node.proofs.Parts.{all_done, gave_streams, line_said, message_routed}
use Rattle.dm_node.proofs.Speaking.{spoke_line}
use Rattle.dm_node.proofs.Staying.{gave_may, routes_may}
use Rattle.dm_node.proofs.node.Node.act.Goals as goal

pub route-requires-clause-streams : goal.route-requires-clause-streams
route-requires-clause-streams c = c.loop-part.invariant.streams

pub route-requires-clause-may : goal.route-requires-clause-may
route-requires-clause-may c = c.loop-part.invariant.may

pub route-requires-clause-lawful : goal.route-requires-clause-lawful
route-requires-clause-lawful c =
    let here = c.loop-part in
    let left = into_iter_items c.next.new.self in
    let is = c.in-Some.ensures.steps.0 ∙ ap (λ p. p ∷ left) c.in-Routes.is in
    All-head IsLawfulPart (Routes c.in-Routes.message) left (subst (All IsLawfulPart) is here.invariant.fit)

pub loop-part-preserved : goal.loop-part-preserved
loop-part-preserved c =
    let here = c.loop-part in
    let n = node_state here.self in
    let left = into_iter_items c.next.new.self in
    let gave = c.in_ok-route-in-Routes.ensures in
    let old = so_far here.wires here.lines.items in
    let mid = so_far c.route.new.wires c.route.new.lines.items in
    let is = c.in-Some.ensures.steps.0 ∙ ap (λ p. p ∷ left) c.in-Routes.is in
    let lawful = All-head IsLawfulPart (Routes c.in-Routes.message) left (subst (All IsLawfulPart) is here.invariant.fit) in
    record {
      can_next = tt;
      finite = tt;
      fit = All-rest IsLawfulPart c.in-Some.part left (into_iter_items here.part-iterator) c.in-Some.ensures.steps.0 here.invariant.fit;
      streams = gave_streams (routes n c.in-Routes.message) c.route.new.self old mid gave;
      may = gave_may (routes n c.in-Routes.message) c.route.new.self old mid gave (routes_may n c.in-Routes.message lawful here.invariant.may);
      rest = λ r after new g.
          here.invariant.rest r after new
          (subst (λ ps. Answers r after old new (acts n ps)) (sym is)
          (message_routed r after c.route.new.self n c.in-Routes.message left old mid new gave g));
    }

pub loop-part-preserved-in-Continue-1 : goal.loop-part-preserved-in-Continue-1
loop-part-preserved-in-Continue-1 c =
    let here = c.loop-part in
    let n = node_state here.self in
    let left = into_iter_items c.next.new.self in
    let is = c.in-Some.ensures.steps.0 ∙ ap (λ p. p ∷ left) c.in-Says.is in
    let old = so_far here.wires here.lines.items in
    let mid = so_far here.wires c.say.new.lines.items in
    record {
      can_next = tt;
      finite = tt;
      fit = All-rest IsLawfulPart c.in-Some.part left (into_iter_items here.part-iterator) c.in-Some.ensures.steps.0 here.invariant.fit;
      streams = here.invariant.streams;
      may = here.invariant.may;
      rest = λ r after new g.
          here.invariant.rest r after new
          (subst (λ ps. Answers r after old new (acts n ps)) (sym is)
          (line_said r after n c.in-Says.line left old mid new (spoke_line here.wires here.lines.items c.say.new.lines.items c.in-Says.line c.in_ok-say-in-Says.ensures.ok) g));
    }

pub returns : goal.returns
returns c =
    let here = c.loop-part in
    let left = here.part-iterator in
    let said = so_far here.wires here.lines.items in
    here.invariant.rest (Ok tt) here.self said (all_done here.self said (into_iter_items left) (sym left.rest.ok.0 ∙ c.in-None.ensures.steps.0) here.invariant.streams)
