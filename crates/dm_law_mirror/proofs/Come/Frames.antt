-- A message about a process that comes to a machine, at the front of its inbox: what is known then.
use Rattle.dm_law_mirror.proofs.Names.{◌≡◌, ℕ, ◌+◌, ◌≤◌, Bool, true, false, List, ◌∷◌, refl, ap, ◌∙◌, sym, subst, inl, inr, arith, if◌then◌else◌, Option, None, Some, false≢true, nat_tests, Pid, pid_of, kernel_at, Message}
use Rattle.dm_law_mirror.proofs.Names.{MsgId, MessageKind, kind_of, PlainMessage, plain_message, incoming_of, Boot, bind, id_eq-same, is_between, tells_onward, Moves, IsIn, receiver_in, sender_in, Point, Spot, Inbox}
use Rattle.dm_law_mirror.proofs.Names.{StandsOnce, StandsOutside, standing, times, Of, Told, is_kernels, stands_right, not_kernels, token_at, Run, Placed, Mirrors, KernelState, MadeStands, AllOwnStand, OwnStands, about_of, told_of}
use Rattle.dm_law_mirror.proofs.Names.{AreMessages, KernelStands, AllRecords, Carries, TokensStand, destination_of, inbox_is, ◌*◌, ◌/◌, ◌==◌, not, length, nat_lt, nat_le}
use Rattle.dm_law_mirror.proofs.Names.{Chunk, Block, Nothing, after_block, after_chunk, is_last, state_of, HasPiece, chunks_of, pieces_of, IsAsked, Resident, resident_at}
use Rattle.dm_law_mirror.proofs.Names.{sort_of, ◌<◌, Cargo, cargo_at, cargo_of, ◌&&◌, eq_self, is_due_piece, brings_piece, is_calloff, is_stale, is_waited_from, destination_expects}
use Rattle.dm_law_rule.proofs.QuietTests.{eq_is}
use Rattle.dm_law_mirror.proofs.Handle.Taking.{some_same}
use Rattle.dm_law_mirror.proofs.Cargoes.{IsCargoOf, is_cargo_of}
use Rattle.dm_law_mirror.proofs.LeftOver.{brings_on, due_of, onward_on, piece_late}
use Rattle.dm_law_rule.specs.Migrating.{size_of}
use Rattle.dm_resident.specs.Lawful.{IsLawfulResident}
use Rattle.dm_resident.specs.Residents as residents
use Rattle.dm_law_mirror.proofs.Residents.{resident_is}
use Rattle.dm_law_mirror.proofs.Sized.{size_at, size_blocks, size_state, sized}

-- machine m, with kernel k, has at its inbox's front message y, which the machine that process p leaves sends
pub record Comes (b : Boot) (m : ℕ) (pt : Point) (l : Placed) (records : AllRecords) (k : KernelState) (y : Message) (p : Pid) : Type 0 where
  pub run : Run b pt
  pub made : MadeStands pt.kernel
  pub mirrors : Mirrors pt.kernel pt.view pt.addresses l
  pub stands : KernelStands b pt l m k
  pub own : AllOwnStand pt.view l
  pub tokens : TokensStand pt.view l records
  pub mine : records m ≡ k.records
  pub count : k.sent ≡ pt.view.count m
  pub there : l.bag y.id ≡ Some y
  pub plain : plain_message y ≡ None
  pub between : is_between (kind_of y.what) ≡ true
  pub of_source : tells_onward (sort_of (kind_of y.what)) ≡ true
  pub about : about_of y.what ≡ Of p
  -- it isn't left over
  pub due : is_due_piece pt.view p y.id (told_of y) ≡ true
  -- the messages behind it
  pub ids : List MsgId
  pub box : pt.view.inbox m ≡ y.id ∷ ids
  pub rest : List Message
  pub inbox : k.inbox ≡ y ∷ rest
  pub others : AreMessages l.bag ids rest

-- it is the one message of a migration to this machine
pub record Arrives (b : Boot) (m : ℕ) (pt : Point) (l : Placed) (k : KernelState) (y : Message) (p : Pid) : Type 0 where
  -- the machine that the process leaves
  pub source : ℕ
  pub told : pt.view.told y.id ≡ Some (told_of y)
  pub mine : is_kernels y.id ≡ true
  pub unplain : pt.kernel.bag y.id ≡ None
  pub first : 1 ≤ standing pt.view y.id (Inbox m)
  pub phase : IsIn pt.view p (Moves (kind_of y.what) source m (Some y.id))
  pub on : is_calloff (kind_of y.what) ≡ false
  pub fresh : is_stale pt m y.id (kind_of y.what) p ≡ false
  pub to : y.to.pid ≡ pid_of m 0
  pub from : y.id.from ≡ pid_of source 0
  pub sender : y.sender ≡ kernel_at y.id.from.home
  pub cargo : Cargo
  pub there : cargo_at l p ≡ Some cargo
  pub carries : Carries p cargo (pt.view.asked p) (incoming_of (k.records p)) y.what
  pub named : cargo.pid ≡ p
  -- what it is of
  pub resident : Resident
  pub is_resident : resident_at l p ≡ Some resident
  pub is_cargo : cargo_of resident (l.notes p) ≡ cargo
  pub is_sized : size_of pt.kernel p ≡ Some (size_at resident)

-- messages by name
pub times_self : (i : MsgId) (is : List MsgId) → times i (i ∷ is) ≡ 1 + times i is
times_self i is = ap (λ (c : Bool). (if c then 1 else 0) + times i is) (id_eq-same i)

-- an own message stands nowhere else
once_of : (c : Bool) (f : Spot → ℕ) (z : Spot) → c ≡ true → 1 ≤ f z → StandsOutside c f → StandsOnce f
once_of true f z e least h = elim h [ inl n ↦ absurd (let g : f z ≡ 0 = n z in omega (arith, g, least)) | inr o ↦ o ]
once_of false f z e least h = absurd (false≢true e)

pub own_once : (b : Boot) (pt : Point) (i : MsgId) (z : Spot) → Run b pt → pt.kernel.bag i ≡ None → is_kernels i ≡ true → 1 ≤ standing pt.view i z → StandsOnce (standing pt.view i)
own_once b pt i z run none mine least = once_of (is_kernels i) (standing pt.view i) z mine least (stands_right pt i run.based.phased.state None none)

-- a message that was never told of is not in the bag
pub fresh_own : (b : Boot) (pt : Point) (l : Placed) (i : MsgId) → Run b pt → Mirrors pt.kernel pt.view pt.addresses l → AllOwnStand pt.view l → is_kernels i ≡ true → pt.view.told i ≡ None → l.bag i ≡ None
fresh_own b pt l i run mirrors own mine untold = by_bag (l.bag i) refl
  where
    by_plain : (x : Message) → l.bag i ≡ Some x → (o : Option PlainMessage) → plain_message x ≡ o → ⊥
    by_plain x there None plain = let e : None ≡ Some (told_of x) = sym untold ∙ (own i x there plain).told in cc
    by_plain x there (Some v) plain =
        let sane = run.based.phased.sane in
        false≢true (sym (not_kernels sane.r sane.e pt.kernel i v (sym (mirrors.plain.bag i) ∙ ap (λ (o : Option Message). bind o plain_message) there ∙ plain) sane.sound) ∙ mine)

    by_bag : (o : Option Message) → l.bag i ≡ o → l.bag i ≡ None
    by_bag None e = e
    by_bag (Some x) e = absurd (by_plain x e (plain_message x) refl)

-- what is known of it
record Token (pt : Point) (m : ℕ) (y : Message) (p : Pid) : Type 0 where
  source : ℕ
  phase : IsIn pt.view p (Moves (kind_of y.what) source m (Some y.id))
  to : y.to.pid ≡ pid_of m 0
  from : y.id.from ≡ pid_of source 0

token_of : (b : Boot) (m : ℕ) (pt : Point) (y : Message) (p : Pid) → Run b pt → is_between (kind_of y.what) ≡ true → tells_onward (sort_of (kind_of y.what)) ≡ true → about_of y.what ≡ Of p → pt.view.told y.id ≡ Some (told_of y) → 1 ≤ standing pt.view y.id (Inbox m)
    → is_due_piece pt.view p y.id (told_of y) ≡ true → Token pt m y p
token_of b m pt y p run between of_source about told first due =
    let v = pt.view in
    let h = run.based.phased.phases in
    let u = due_of v h p y.id (told_of y) (Inbox m) told between about first due in
    let j = u.kind in
    let s = u.s in
    let d = u.d in
    let token = token_at v p (h.of p) j s d y.id u.phase (h.each p) in
    let kind_is : j ≡ kind_of y.what = sym u.kind_is in
    let source : tells_onward (sort_of j) ≡ true = ap (λ (k : MessageKind). tells_onward (sort_of k)) kind_is ∙ of_source in
    let here : m ≡ d = inbox_is m (sender_in j s d) (receiver_in j s d) (token.ways (Inbox m) first) ∙ ap (λ (c : Bool). if c then d else s) source in
    record {
      source = s;
      phase = subst (λ (n : ℕ). IsIn v p (Moves (kind_of y.what) s n (Some y.id))) (sym here) (subst (λ (i : MessageKind). IsIn v p (Moves i s d (Some y.id))) kind_is (subst (IsIn v p) u.phase (h.each p)));
      to = ap (λ (z : Told). z.receiver) u.told ∙ ap (λ (n : ℕ). pid_of n 0) (ap (λ (c : Bool). if c then d else s) source ∙ sym here);
      from = u.from ∙ ap (λ (n : ℕ). pid_of n 0) (ap (λ (c : Bool). if c then s else d) source);
    }

-- and so it is no stale piece
fresh_by : (pt : Point) (m : ℕ) (y : Message) (p : Pid) (source : ℕ) (c : Bool) → IsIn pt.view p (Moves (kind_of y.what) source m (Some y.id)) → y.id.from ≡ pid_of source 0 → is_calloff (kind_of y.what) ≡ false → brings_piece (sort_of (kind_of y.what)) ≡ c → is_stale pt m y.id (kind_of y.what) p ≡ false
fresh_by pt m y p source false phase from on e = ap (λ (d : Bool). d && not (is_waited_from y.id.from.home (pt.view.known m p))) e
fresh_by pt m y p source true phase from on e =
    let early = (piece_late (kind_of y.what) (brings_on (kind_of y.what) e).1).0 in
    let known = destination_expects pt.view p (kind_of y.what) source m (Some y.id) phase early on in
    let waited : is_waited_from y.id.from.home (pt.view.known m p) ≡ true = ap (is_waited_from y.id.from.home) known ∙ ap (λ (q : Pid). q.home == source) from ∙ eq_self source in
    ap (λ (d : Bool). brings_piece (sort_of (kind_of y.what)) && not d) waited ∙ ap (λ (d : Bool). d && false) e

destination_is : (m : ℕ) (y : Message) → tells_onward (sort_of (kind_of y.what)) ≡ true → y.to.pid ≡ pid_of m 0 → destination_of y.id (told_of y) ≡ m
destination_is m y of_source to = ap (λ (c : Bool). if c then y.to.pid.home else y.id.from.home) of_source ∙ ap (λ (q : Pid). q.home) to

pub arrives : (b : Boot) (m : ℕ) (pt : Point) (l : Placed) (records : AllRecords) (k : KernelState) (y : Message) (p : Pid) → Comes b m pt l records k y p → Arrives b m pt l k y p
arrives b m pt l records k y p c =
    let stood : OwnStands pt.view y.id y = c.own y.id y c.there c.plain in
    let first : 1 ≤ standing pt.view y.id (Inbox m) = grind (arith, nat_tests, times_self, c.box) in
    let t = token_of b m pt y p c.run c.between c.of_source c.about stood.told first c.due in
    let token = (c.tokens p y.id (told_of y) (Inbox m) stood.told c.between c.about first).0 c.due in
    let on : is_calloff (kind_of y.what) ≡ false = onward_on (kind_of y.what) c.of_source in
    let fresh : is_stale pt m y.id (kind_of y.what) p ≡ false = fresh_by pt m y p t.source (brings_piece (sort_of (kind_of y.what))) t.phase t.from on refl in
    let same : token.message ≡ y = some_same token.message y (sym token.is ∙ c.there) in
    let records_is : records (destination_of y.id (told_of y)) p ≡ k.records p = ap (λ (n : ℕ). records n p) (destination_is m y c.of_source t.to) ∙ (λ i. c.mine i p) in
    let of : IsCargoOf (resident_at l p) (l.notes p) token.cargo = is_cargo_of (resident_at l p) (l.notes p) token.cargo token.there in
    search (
      on,
      fresh,
      sym (c.mirrors.plain.bag y.id) ∙ ap (λ (o : Option Message). bind o plain_message) c.there ∙ c.plain,
      sym (ap (λ (x : Message). x.sender) same) ∙ token.sender,
      subst (λ (x : Message). Carries p token.cargo (pt.view.asked p) (incoming_of (k.records p)) x.what) same
          (subst (λ o. Carries p token.cargo (pt.view.asked p) (incoming_of o) token.message.what) records_is token.carries),
      ap (λ (z : Cargo). z.pid) (sym of.is) ∙ (resident_is pt.kernel pt.view pt.addresses l p of.resident c.mirrors of.there).name,
      sized pt.kernel l p of.resident c.mirrors.plain of.there,
    )

-- How many pieces what moves has, by its bytes and by the rule, and which of them is asked for next.

pub chunks_same : (r : Resident) → IsLawfulResident r → (length (state_of r) + 511) / 512 ≡ chunks_of (size_at r)
chunks_same r h = ap (λ (n : ℕ). (n + 511) / 512) (sym (size_state r h))

pub pieces_same : (r : Resident) → IsLawfulResident r → (length (state_of r) + 511) / 512 + residents.blocks_of r ≡ pieces_of (size_at r)
pieces_same r h = λ i. chunks_same r h i + sym (size_blocks r) i

pub least_of : (a c : ℕ) → nat_le a c ≡ true → a ≤ c
least_of a c e = grind (arith, nat_tests)

-- a chunk is the last where as many were asked for as there are
pub chunk_last : (c : Cargo) (n k chunks : ℕ) → (length c.state + 511) / 512 ≡ chunks → IsAsked c n (Chunk k) → (n == chunks) ≡ is_last c.state k
chunk_last c n k chunks e asked =
    ap (λ (d : ℕ). n == d) (sym e) ∙ (let e_ : (n == (length c.state + 511) / 512) ≡ (is_last c.state k) = grind (arith, nat_tests, least_of, eq_is, asked.0, asked.1) in e_)

-- what is asked for then
behind_last : (none : Bool) (c : Cargo) (n k : ℕ) → nat_le (length c.state) (512 * (k + 1)) ≡ true → IsAsked c n (Chunk k) → HasPiece c (if none then Nothing else Block 0) → IsAsked c (n + 1) (if none then Nothing else Block 0)
behind_last true c n k e asked there = tt
behind_last false c n k e asked there =
    let f : (length c.state + 511) / 512 ≡ k + 1 = (let g = least_of (length c.state) (512 * (k + 1)) e in let h = asked.1 in omega (arith, g, h)) in
    (omega (arith, f, asked.0), there)

pub chunk_next : (last : Bool) (c : Cargo) (n k : ℕ) → nat_le (length c.state) (512 * (k + 1)) ≡ last → IsAsked c n (Chunk k) → HasPiece c (after_chunk k last (length c.memory / 256)) → IsAsked c (n + 1) (after_chunk k last (length c.memory / 256))
chunk_next true c n k e asked there = behind_last (length c.memory / 256 == 0) c n k e asked there
chunk_next false c n k e asked there = (omega (arith, asked.0), there)

-- a piece behind all the chunks is the last where as many were asked for as there are
piece_last : (n pieces chunks blocks j : ℕ) → n ≡ chunks + j + 1 → chunks + blocks ≡ pieces → j < blocks → (n == pieces) ≡ not (nat_lt (j + 1) blocks)
piece_last n pieces chunks blocks j e f less = grind (arith, nat_tests)

pub block_last : (c : Cargo) (n j pieces : ℕ) → (length c.state + 511) / 512 + length c.memory / 256 ≡ pieces → length c.memory ≡ 256 * (length c.memory / 256) → IsAsked c n (Block j) → (n == pieces) ≡ not (nat_lt (j + 1) (length c.memory / 256))
block_last c n j pieces e whole asked = piece_last n pieces ((length c.state + 511) / 512) (length c.memory / 256) j asked.0 e (let there = asked.1 in omega (arith, there, whole))

block_next : (more : Bool) (c : Cargo) (n j : ℕ) → IsAsked c n (Block j) → HasPiece c (if more then Block (j + 1) else Nothing) → IsAsked c (n + 1) (if more then Block (j + 1) else Nothing)
block_next true c n j asked there = (omega (arith, asked.0), there)
block_next false c n j asked there = tt

pub asked_after_block : (c : Cargo) (n j : ℕ) → IsAsked c n (Block j) → HasPiece c (after_block j (length c.memory / 256)) → IsAsked c (n + 1) (after_block j (length c.memory / 256))
asked_after_block c n j asked there = block_next (nat_lt (j + 1) (length c.memory / 256)) c n j asked there
