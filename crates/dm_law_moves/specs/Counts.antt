-- What the count of a link promises: what its holder was told of another's place stays until the link is given anew.
use Rattle.std.specs.Prelude.{◌≡◌, ℕ, ◌≤◌, ◌||◌, Bool, true, false, List, [], ◌∷◌, ◌++◌}
use Rattle.std.specs.declared.option.Option.{Option}
use Rattle.std.specs.declared.option.Option.TheVariants.{None, Some}
use Rattle.dm_link.specs.declared.Pid.{Pid}
use Rattle.dm_link.specs.Names.{Place}
use Rattle.dm_message.specs.declared.MsgId.{MsgId}
use Rattle.dm_onekernel.specs.declared.boot.Boot.{Boot}
use Rattle.dm_onekernel.specs.declared.label.Label.{Label}
use Rattle.dm_onekernel.specs.Boot.{IsValid}
use Rattle.dm_schedule.specs.declared.Step.{Step}
use Rattle.dm_line.specs.declared.line.Line.{Line}
use Rattle.dm_line.specs.declared.line.Line.TheVariants as line
use Rattle.dm_law_rule.specs.Addresses.{Holder, Slot, Owner, Receiver, Sender, Enclosed, Child, Name, Answer, AskedBy, ToBoard, Gets, holder_eq, gives, belongs_to, leads_to}
use Rattle.dm_law_rule.specs.Laws.{IsStep, Leads}
use Rattle.dm_law_rule.specs.Parts.{Spelled}
use Rattle.dm_law_rule.specs.Point.{Point, label_of, first_point, after_line}
use Rattle.dm_law_rule.specs.Rule.{group_of}
use Rattle.dm_law_rule.specs.View.{Told}
use Rattle.dm_law_rule.specs.View as view

-- a process's or a server's own address, and not a message's
abbrev pub is_owned : Holder → Bool
is_owned (Slot p k) = true
is_owned (Owner p) = true
is_owned (Receiver id) = false
is_owned (Sender id) = false
is_owned (Enclosed id k) = false
is_owned (Child n) = true
is_owned (Name n) = true
is_owned (Answer n) = true
is_owned (AskedBy p) = false
is_owned ToBoard = true

-- a step of the kernel without machines gives a holder an address
abbrev pub gives_to : Holder → List Gets → Bool
gives_to h [] = false
gives_to h (g ∷ gs) = holder_eq g.holder h || gives_to h gs

abbrev pub is_filled : Point → Option Label → Holder → Bool
is_filled pt None h = false
is_filled pt (Some l) h = gives_to h (gives pt.kernel pt.view pt.addresses l)

-- one of the lines does
abbrev pub in_next : Option Point → (Point → Bool) → Bool
in_next None f = false
in_next (Some next) f = f next

abbrev pub refilled : Holder → Point → List Line → Bool
refilled h pt [] = false
refilled h pt (l ∷ ls) = is_filled pt (label_of l) h || in_next (after_line pt l) (λ next. refilled h next ls)

-- the rule leads from a point to another, and no step gives the holder an address
abbrev pub LeadsUnfilled : Holder → Boot → Point → List Step → Point → Type 0
LeadsUnfilled h b pt [] end = pt ≡ end
LeadsUnfilled h b pt (e ∷ es) end = (w : Spelled) × IsStep pt.kernel.machines e × (group_of b pt e ≡ Some w) × (refilled h pt w.lines ≡ false) × LeadsUnfilled h b w.point es end

-- as long as no step gives a process's or a server's own address anew, its count doesn't fall
abbrev pub CountsStay : Type 0
CountsStay =
    (b : Boot) (es : List Step) (pt end : Point) (h : Holder) → is_owned h ≡ true → LeadsUnfilled h b pt es end → (pt.addresses h).moves ≤ (end.addresses h).moves

-- wherever the rule leads: where an update was handled that tells its receiver the place of a process, each address of the
-- receiver that led to the process has no lower count than the update, as long as no step gives it anew
abbrev pub CountsKept : Type 0
CountsKept =
    (b : Boot) (es more : List Step) (pt end : Point) (d : Step) (w : Spelled) (id : MsgId) (n : ℕ) (t : Told) (p : Pid) (c : Place) (h : Holder) (earlier later : List Line) → IsValid b → Leads b (first_point b) es pt → group_of b pt d ≡ Some w
    → w.lines ≡ earlier ++ line.Updated id n ∷ later → pt.view.told id ≡ Some t → t.about ≡ view.Place p c.at c.moves → belongs_to t.receiver h ≡ true → leads_to pt.kernel h ≡ Some p → LeadsUnfilled h b w.point more end
    → c.moves ≤ (end.addresses h).moves
