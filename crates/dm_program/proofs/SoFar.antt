-- What `run` has printed is sound, however it ended.
use Rattle.std.specs.Prelude.{◌≡◌, ◌⊎◌, ℕ, List, length}
use Rattle.std.proofs.Common.{inl, inr}
use Rattle.dm_onekernel.specs.declared.boot.Boot.{Boot}
use Rattle.dm_schedule.specs.declared.Directive.{Directive}
use Rattle.std.specs.List.{All}
use Rattle.std.specs.declared.option.Option.{Option}
use Rattle.dm_line.specs.declared.line.Line.{Line}
use Rattle.dm_line.specs.Todo.{Todo}
use Rattle.dm_message.specs.declared.MsgId.{MsgId}
use Rattle.dm_onekernel.specs.Boot.{IsValid}
use Rattle.dm_law_rule.specs.Point.{Point, first_point}
use Rattle.dm_law_moves.proofs.Open.Moves.{leads_of}
use Rattle.dm_law_mirror.proofs.Leading.{good_leads}
use Rattle.dm_law_mirror.proofs.Names.{joined, stands_once_always}
use Rattle.dm_law_mirror.specs.Run.{IsGood}
use Rattle.dm_run.specs.Printed.{IsBegun, IsOfFirst, IsWhole, RunWears}
use Rattle.dm_run.specs.Runs.{IsFor}
use Rattle.dm_ending.specs.declared.status.Status.{Status}
use Rattle.dm_ending.specs.declared.status.Status.TheVariants.{Done, NoMemory, WriteFault, Worn}
use Rattle.dm_front.specs.Outside.{Outside}
use Rattle.dm_cmd_run.specs.Runs.{RunSays}
use Rattle.dm_front.specs.Runs.{Runs}
use Rattle.dm_program.proofs.Runs.Fits.{directives_fit}
use Rattle.dm_program.specs.Printed.{by_rule}
use Rattle.dm_program.specs.SoFar.{AllRunsAreSound, IsSoundSoFar, WritesSoundly}

abbrev sound_so_far : (b : Boot) (ds : List Directive) (groups : List (List Line)) (end : Point) (left : Todo) → IsValid b → All (IsFor (length b.machines)) ds → IsGood b ds groups end left → IsSoundSoFar b ds groups end
sound_so_far b ds groups end left valid within good =
    let l = good_leads b ds groups end left valid (directives_fit (length b.machines) ds within) good in
    record {
      replays = good.replays;
      received = good.received;
      stands = λ (id : MsgId). stands_once_always b l.0 end id valid (leads_of b l.0 (joined groups) (first_point b) end l.1);
      left = left;
      run = good.run;
    }

writes_soundly : (b : Boot) (ds : List Directive) (o : Outside) (s : Status) → IsValid b → All (IsFor (length b.machines)) ds → RunSays by_rule b ds o.before o.after o.world s → WritesSoundly b ds o.before o.after s
writes_soundly b ds o Done valid within says =
    let w : IsWhole by_rule b ds o.before o.after o.world = says in
    let s = sound_so_far b ds w.groups w.at.end w.at.left valid within w.good in
    record { groups = w.groups; end = w.at.end; sound = record { replays = s.replays; received = s.received; stands = s.stands; left = w.at.left; run = w.good.run; over = w.over }; written = w.written }
writes_soundly b ds o (NoMemory lack) valid within says =
    let w : IsOfFirst by_rule b ds o.before o.after = says in
    record { groups = w.groups; end = w.at.end; sound = sound_so_far b ds w.groups w.at.end w.at.left valid within w.good; written = w.written }
writes_soundly b ds o WriteFault valid within says =
    let w : IsBegun by_rule b ds o.before o.after o.world = says in
    record {
      groups = w.groups;
      end = w.at.end;
      sound = sound_so_far b ds w.groups w.at.end w.at.left valid within w.good;
      last = w.last;
      last_is = w.last_is;
      begun = w.begun;
      others = w.others;
      prefix = w.prefix;
      more = w.more;
      written = w.written;
    }
writes_soundly b ds o (Worn from to) valid within says =
    let w : RunWears by_rule b ds o.before o.after from to = says in
    let at = w.wears.at in
    record {
      groups = w.groups;
      end = at.end;
      sound = sound_so_far b ds w.groups at.end at.left valid within w.wears.good;
      written = w.written;
      next = w.wears.worn.next;
      next_is = w.wears.worn.next_is;
      worn = w.wears.worn.worn;
    }
writes_soundly b ds o _ valid within says = absurd says

pub all_runs_are_sound : AllRunsAreSound
all_runs_are_sound boot schedule o s says = elim says [
  | inl r ↦ inl (record { system = r.system; directives = r.directives; accepts = r.accepts; writes = writes_soundly r.system r.directives o s r.valid r.within r.says })
  | inr r ↦ inr r
]
