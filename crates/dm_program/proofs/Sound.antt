-- What `run` has printed at its end is sound.
use Rattle.dm_program.proofs.Names.{◌≡◌, inl, inr, ℕ, List, length, Boot, Directive, Line, MsgId, first_point, leads_of, good_leads, joined, stands_once_always, IsWhole, by_rule, IsSound, PrintsSoundly, RunsAreSound}
use Rattle.dm_program.proofs.Runs.Fits.{directives_fit}

pub runs_are_sound : RunsAreSound
runs_are_sound boot schedule o says = elim says [
  | inl r ↦
      let w : IsWhole by_rule r.system r.directives o.before o.after o.world = r.says in
      let l = good_leads r.system r.directives w.groups w.at.end w.at.left r.valid (directives_fit (length r.system.machines) r.directives r.within) w.good in
      let sound : IsSound r.system r.directives w.groups w.at.end =
      record {
        replays = w.good.replays;
        received = w.good.received;
        stands = λ (id : MsgId). stands_once_always r.system l.0 w.at.end id r.valid (leads_of r.system l.0 (joined w.groups) (first_point r.system) w.at.end l.1);
        left = w.at.left;
        run = w.good.run;
        over = w.over;
      } in
      record {
        system = r.system;
        directives = r.directives;
        accepts = r.accepts;
        prints = record { groups = w.groups; end = w.at.end; sound = sound; written = w.written };
      }
  | inr r ↦ absurd r.why
]
