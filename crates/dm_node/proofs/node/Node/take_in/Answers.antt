use Rattle.dm_node.proofs.Names.{◌≡◌, ◌∷◌, ◌++◌, [], ap, ◌∙◌, List, Sent, Gave, here, node_state, on_ok_weaker, so_far, takes_kept, window}
use Rattle.dm_line.specs.declared.line.Line.TheVariants as line
use Rattle.dm_kernel.specs.Meets as kernel
use Rattle.dm_node.proofs.Arrivals.{came_early, came_in, came_old}
use Rattle.dm_node.proofs.Speaking.{spoke_line}
use Rattle.dm_node.proofs.node.Node.take_in.Goals as goal

pub returns-in_ok-enters-in-Taken : goal.returns-in_ok-enters-in-Taken
returns-in_ok-enters-in-Taken c =
    let n = node_state c.args.self.now in
    let from = c.args.from in
    let old = c.args.lines.now.items in
    let mid = record n { kernel = kernel.kernel_state c.enters.new.self } in
    let told = line.Taken from (here n) c.args.seq in
    let said : c.say.new.lines.items ≡ old ++ told ∷ [] = c.in_ok-say-in-Taken.ensures.ok ∙ ap (λ k. old ++ line.Taken from k c.args.seq ∷ []) c.here-here.ensures in
    on_ok_weaker c.take_kept.result
    (λ (gave : (wires : List (List Sent)) → Gave c.take_kept.new.self (so_far wires c.say.new.lines.items) (so_far wires c.take_kept.new.lines.items) (takes_kept window mid from)). λ wires.
    came_in n mid c.take_kept.new.self from c.args.seq c.args.arrived c.in-Taken.message (so_far wires old) (so_far wires c.say.new.lines.items) (so_far wires c.take_kept.new.lines.items) c.in-Taken.is
    (ap (λ k. record n { kernel = kernel.kernel_state k }) c.in_ok-enters-in-Taken.ensures.ok) (spoke_line wires old c.say.new.lines.items told said) (gave wires))
    c.take_kept.ensures

pub returns-in-Old : goal.returns-in-Old
returns-in-Old c =
    let n = node_state c.args.self.now in
    let from = c.args.from in
    let old = c.args.lines.now.items in
    let new = c.say-in-Old.new.lines.items in
    on_ok_weaker c.say-in-Old.result
    (λ (said : new ≡ old ++ line.Old from c.here-here.result c.args.seq ∷ []). λ (wires : List (List Sent)).
    came_old c.args.self.now from c.args.seq c.args.arrived (so_far wires old) (so_far wires new) c.in-Old.is c.requires.streams
    (spoke_line wires old new (line.Old from (here n) c.args.seq) (said ∙ ap (λ k. old ++ line.Old from k c.args.seq ∷ []) c.here-here.ensures)))
    c.say-in-Old.ensures.ok

pub returns-in-Early : goal.returns-in-Early
returns-in-Early c =
    let n = node_state c.args.self.now in
    let from = c.args.from in
    let old = c.args.lines.now.items in
    let new = c.say-in-Early.new.lines.items in
    on_ok_weaker c.say-in-Early.result
    (λ (said : new ≡ old ++ line.Early from c.here-here.result c.args.seq ∷ []). λ (wires : List (List Sent)).
    came_early c.args.self.now from c.args.seq c.args.arrived (so_far wires old) (so_far wires new) c.in-Early.is c.requires.streams
    (spoke_line wires old new (line.Early from (here n) c.args.seq) (said ∙ ap (λ k. old ++ line.Early from k c.args.seq ∷ []) c.here-here.ensures)))
    c.say-in-Early.ensures.ok
