-- What a server did with a message that was taken out of the bag.
use Rattle.std.specs.Prelude.{◌≡◌, ◌+◌, ℕ, true, false, is_some, List, [], ◌∷◌, ◌++◌, length, map, option_map}
use Rattle.std.proofs.Common.{refl, sym, ap, ◌∙◌}
use Rattle.std.specs.declared.option.Option.{Option}
use Rattle.std.specs.declared.option.Option.TheVariants.{None, Some}
use Rattle.dm_message.specs.declared.Message.{Message}
use Rattle.dm_message.specs.declared.What.{What}
use Rattle.dm_message.specs.declared.What.TheVariants as what
use Rattle.dm_message.specs.Outcomes.{code_of_outcome}
use Rattle.dm_message.specs.Plain.{PlainMessage, plain_message, plain_what, with_what}
use Rattle.dm_onekernel.specs.Kernel.{Manager, OneKernel, Switchboard}
use Rattle.dm_onekernel.specs.Manager as manager_
use Rattle.dm_onekernel.specs.Options.{bind}
use Rattle.dm_onekernel.specs.Switchboard as switchboard_
use Rattle.dm_procman.proofs.Plain.{plain_pending_numbered}
use Rattle.dm_procman.specs.Managing.{Managing, plain_manager, plain_pending}
use Rattle.dm_procman.specs.Taking.{IsForManager, pending_request}
use Rattle.dm_procman.specs.declared.pending.Pending.{Pending}
use Rattle.dm_replay.specs.Serving.{board_at, board_took_at, manager_at, manager_took_at}
use Rattle.dm_replay.specs.State.{put_in}
use Rattle.dm_replay.specs.Tests.{is_for_manager}
use Rattle.dm_replay.proofs.Bag.{IsPlain, enters}
use Rattle.dm_replay.proofs.Taken.{none_if}

-- the board is as told, and the answer enters the bag
board_what : (s : OneKernel) (m : Option PlainMessage) → board_at s m ≡ bind (bind m (λ m. switchboard_.board_takes s.switchboard m m.what)) (λ t. Some (board_took_at s t))
board_what s None = refl
board_what s (Some m) = refl

pub board_so : (s t : OneKernel) (m : Option PlainMessage) (board : Switchboard) (answer : Option Message)
    → Some (record { switchboard = board; answer = bind answer plain_message }) ≡ bind m (λ m. switchboard_.board_takes s.switchboard m m.what) → t ≡ record s { switchboard = board } → IsPlain answer → board_at s m ≡ Some (put_in t answer)
board_so s t m board answer e is said =
    board_what s m
    ∙ ap (λ o. bind o (λ t. Some (board_took_at s t))) (sym e)
    ∙ ap Some (sym (enters (record s { switchboard = board }) answer said))
    ∙ ap (λ (u : OneKernel). Some (put_in u answer)) (sym is)

-- and so is the manager, and its message
manager_what : (s : OneKernel) (m : Option PlainMessage) → manager_at s m ≡ bind (bind m (λ m. manager_.manager_takes s.manager s.machines (length s.images) m m.what)) (λ t. Some (manager_took_at s t))
manager_what s None = refl
manager_what s (Some m) = refl

pub manager_so : (s t : OneKernel) (m : Option PlainMessage) (g : Manager) (machines images : ℕ) (sent : Option Message)
    → Some (record { manager = g; message = bind sent plain_message }) ≡ bind m (λ m. manager_.manager_takes s.manager machines images m m.what) → machines ≡ s.machines → images ≡ length s.images
    → t ≡ record s { manager = g } → IsPlain sent → manager_at s m ≡ Some (put_in t sent)
manager_so s t m g machines images sent e same_machines same_images is said =
    manager_what s m
    ∙ sym (ap (λ n. bind (bind m (λ m. manager_.manager_takes s.manager n (length s.images) m m.what)) (λ t. Some (manager_took_at s t))) same_machines)
    ∙ sym (ap (λ n. bind (bind m (λ m. manager_.manager_takes s.manager machines n m m.what)) (λ t. Some (manager_took_at s t))) same_images)
    ∙ ap (λ o. bind o (λ t. Some (manager_took_at s t))) (sym e)
    ∙ ap Some (sym (enters (record s { manager = g }) sent said))
    ∙ ap (λ (u : OneKernel). Some (put_in u sent)) (sym is)

-- what the test says
pub for_manager : (g : Managing) (n : ℕ) (w : What) → is_for_manager g n w ≡ true → IsForManager g n w
for_manager g n (what.User code channel body links) e = tt
for_manager g n (what.Created child) e = e
for_manager g n what.NoRoom e = e
for_manager g n (what.Moved outcome) e = e
for_manager g n w e = absurd (cc)

-- no request of this number waits for an answer
none_pending : (n : ℕ) (rs : List Pending) → is_some (pending_request n rs) ≡ false → manager_.pending_numbered n (map plain_pending rs) ≡ None
none_pending n rs e = plain_pending_numbered n rs ∙ ap (option_map plain_pending) (none_if (pending_request n rs) e)

-- a message that the manager doesn't take
takes_not : (g : Managing) (machines images : ℕ) (m : Message) (w : What) → is_for_manager g m.id.n w ≡ false
    → bind (with_what m (plain_what w)) (λ (m : PlainMessage). manager_.manager_takes (plain_manager g) machines images m m.what) ≡ None
takes_not g machines images m (what.User code channel body links) e = absurd (cc)
takes_not g machines images m (what.Created child) e =
    ap (manager_.takes_answer (plain_manager g) m.id.n ((plain_manager g).children ++ child ∷ []) 0 (manager_.control_link (length (plain_manager g).children + 1) ∷ [])) (none_pending m.id.n g.pending e)
takes_not g machines images m what.NoRoom e = ap (manager_.takes_answer (plain_manager g) m.id.n (plain_manager g).children 1 []) (none_pending m.id.n g.pending e)
takes_not g machines images m (what.Moved outcome) e = ap (manager_.takes_answer (plain_manager g) m.id.n (plain_manager g).children (code_of_outcome outcome) []) (none_pending m.id.n g.pending e)
takes_not g machines images m w e = refl

pub manager_not : (s : OneKernel) (g : Managing) (m : Message) → s.manager ≡ plain_manager g → is_for_manager g m.id.n m.what ≡ false → manager_at s (plain_message m) ≡ None
manager_not s g m is e =
    manager_what s (plain_message m)
    ∙ ap (λ o. bind o (λ t. Some (manager_took_at s t)))
    (ap (λ (h : Manager). bind (plain_message m) (λ (m : PlainMessage). manager_.manager_takes h s.machines (length s.images) m m.what)) is ∙ takes_not g s.machines (length s.images) m m.what e)
