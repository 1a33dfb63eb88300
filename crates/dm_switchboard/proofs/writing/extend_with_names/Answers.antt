use Rattle.dm_switchboard.proofs.Imports.{◌≤◌, ◌<◌, ◌++◌, ◌∙◌, length, ap, subst, arith, All, listed, named}
use Rattle.std.proofs.Common.{take_all}
use Rattle.std.proofs.lemmas.List.{length-map}
use Rattle.dm_packet.proofs.Names.{flat_map}
use Rattle.dm_switchboard.specs.Packed.{FitsNamed, spell_named}
use Rattle.dm_switchboard.proofs.Loops.{missing, named_written, sliced}
use Rattle.dm_switchboard.proofs.writing.extend_with_names.Goals as goal
use Rattle.dm_switchboard.proofs.writing.extend_with_names.Goals.{in-Some+in_ok-extend_with_named, in_default}

pub loop-place-preserved : goal.loop-place-preserved
loop-place-preserved c =
    let es = c.args.names.now.entries in
    let l = c.loop-place in
    let within : l.place < length es = omega (arith, c.loop-place-test.true, c.len-place-end.ensures.len) in
    elim c.match-get_index.branch [
      | in-Some+in_ok-extend_with_named w ↦
          rw w.out-is
          (named_written (listed es) l.place c.args.out.now.items l.out.items w.extend_with_named.new.out.items (named (w.in-Some.name.now, w.in-Some.link.now)) (sliced es l.place (w.in-Some.name.now, w.in-Some.link.now) w.in-Some.ensures.entry)
          w.in_ok-extend_with_named.ensures.fits l.invariant.0 l.invariant.1 w.in_ok-extend_with_named.ensures.ok)
      | in_default w ↦ absurd (missing es l.place within w.in_default.ensures.entry)
    ]

pub returns-clause-ok : goal.returns-clause-ok
returns-clause-ok c =
    let es = c.args.names.now.entries in
    let past : length (listed es) ≤ c.loop-place.place = omega (arith, c.loop-place-test.false, c.len-place-end.ensures.len, length-map es named) in
    c.loop-place.invariant.0 ∙ ap (λ ks. c.args.out.now.items ++ flat_map spell_named ks) (take_all c.loop-place.place (listed es) past)

pub returns-clause-fits : goal.returns-clause-fits
returns-clause-fits c =
    let es = c.args.names.now.entries in
    let past : length (listed es) ≤ c.loop-place.place = omega (arith, c.loop-place-test.false, c.len-place-end.ensures.len, length-map es named) in
    subst (All FitsNamed) (take_all c.loop-place.place (listed es) past) c.loop-place.invariant.1
