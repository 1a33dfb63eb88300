-- What the first puts of messages told of them.
use Rattle.std.specs.Prelude.{◌≡◌, true}
use Rattle.std.specs.declared.option.Option.TheVariants.{Some}
use Rattle.dm_message.specs.declared.MsgId.{MsgId}
use Rattle.dm_message.specs.Kinds.{plain_kind}
use Rattle.dm_message.specs.Plain.{PlainMessage}
use Rattle.dm_law_rule.specs.View.{Told, is_kernels}
use Rattle.dm_law_rule.specs.Point.{Point}
use Rattle.dm_law_rule.specs.Phases.{is_between}

-- of a message of the bag its kind and its receiver; and what kernels tell each other of migrations is their own
pub record TellsRight (pt : Point) : Type 0 where
  pub kind : (i : MsgId) (x : PlainMessage) (t : Told) → pt.kernel.bag i ≡ Some x → pt.view.told i ≡ Some t → t.kind ≡ plain_kind x.what
  pub receiver : (i : MsgId) (x : PlainMessage) (t : Told) → pt.kernel.bag i ≡ Some x → pt.view.told i ≡ Some t → t.receiver ≡ x.to
  pub own : (i : MsgId) (t : Told) → pt.view.told i ≡ Some t → is_between t.kind ≡ true → is_kernels i ≡ true
