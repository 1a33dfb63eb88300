-- A piece that was expected is taken.
use Rattle.dm_kernel.proofs.Names.{◌≡◌, ◌∙◌, ap, sym, true, Some, option_copied_mut, at, incoming_of, with_record, Incoming, Arrival, kernel_state, took_piece, is_expected}
use Rattle.dm_kernel.proofs.Known.{has_some, same_places}
use Rattle.dm_kernel.proofs.Pieces.{has_taken}
use Rattle.dm_kernel.proofs.kernel.Kernel.take_block.Goals as goal

pub returns : goal.returns
returns c =
    let s = kernel_state c.args.self.now in
    let p = c.args.pid in
    let o = incoming_of (at c.args.self.now.records p) in
    let a = c.unwrap-arriving.result.now in
    let w = c.take_block-pull.new.self in
    let was : o ≡ Some a = sym c.incoming_mut.ensures.value ∙ ap option_copied_mut c.unwrap-arriving.ensures in
    let set = c.incoming_mut.follows.holds w (has_some _ a was) in
    let expected : is_expected o c.args.message.now.id.from.home ≡ true = sym c.expects.ensures ∙ c.if-not-expects.false in
    has_taken c.say_piece.result c.say_piece.new.self c.args.parts.now.items c.say_piece.new.parts.items s _ c.args.message.now p o a w _ c.blocks-blocks.result c.wanted-wanted.result c.take_block-pull.result expected was
    (same_places s _ (with_record s.records p (Incoming w)) _ s.preds set.0 set.1)
    c.blocks-blocks.ensures
    c.wanted-wanted.ensures
    c.take_block-pull.ensures.pull
    (ap (λ (x : Arrival). took_piece s c.args.message.now p (Some x)) c.take_block-pull.ensures.after)
    c.say_piece.ensures
