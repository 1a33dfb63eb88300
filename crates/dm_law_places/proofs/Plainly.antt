-- The kernel with places without the messages that machines' kernels send themselves: it mirrors the same point.
use Rattle.dm_law_places.proofs.Names.{◌≡◌, ◌∙◌, Option, None, Some, MsgId, Message, PlainWhat, plain_message, plain_what, OneKernel, bind, View, Addresses, Placed, Mirrors, arith}

abbrev if_plain : Message → Option PlainWhat → Option Message
if_plain m None = None
if_plain m (Some w) = Some m

abbrev kept : Option Message → Option Message
kept None = None
kept (Some m) = if_plain m (plain_what m.what)

abbrev pub without_own : Placed → Placed
without_own l = record l { bag = λ i. kept (l.bag i) }

means_same : (o : Option Message) → bind (kept o) plain_message ≡ bind o plain_message
means_same o = search arith

is_there : (o : Option Message) (x : Message) → kept o ≡ Some x → o ≡ Some x
is_there o x h1 = search arith

gone : (o : Option Message) → bind o plain_message ≡ None → kept o ≡ None
gone o h1 = search arith

pub without_own_mirrors : (s : OneKernel) (v : View) (a : Addresses) (l : Placed) → Mirrors s v a l → Mirrors s v a (without_own l)
without_own_mirrors s v a l h = search (arith, means_same, is_there)

-- none is left that isn't the kernel's
pub none_own : (s : OneKernel) (v : View) (a : Addresses) (l : Placed) (i : MsgId) → s.bag i ≡ None → Mirrors s v a l → (without_own l).bag i ≡ None
none_own s v a l i none h = gone (l.bag i) (h.plain.bag i ∙ none)
