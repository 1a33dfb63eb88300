-- All that holds wherever the rule leads holds at the start and behind each group; and so the laws.
use Rattle.dm_law_always.proofs.Names.{List, Boot, IsValid, Step, Leads, Point, first_point, FoundAlways, GoesOnAlways, KnownAlways, ReceivesInOrder}
use Rattle.dm_law_always.proofs.Based.Always.{based_start, based_group}
use Rattle.dm_law_always.proofs.Found.Always.{FoundBy, found_start, found_group, found_of}
use Rattle.dm_law_always.proofs.Goes.Runs.{Both, RunStarts, RunGoes, both_always, goes_on_by}
use Rattle.dm_law_always.proofs.Order.Always.{receives_in_order_by}
use Rattle.dm_law_always.proofs.Runs.{Based, Run}

run_by : (b : Boot) (pt : Point) → Based b pt → FoundBy pt → Run b pt
run_by b pt based kept = record { based = based; found = found_of pt based.phased kept; kept = kept }

pub run_start : RunStarts
run_start b valid = run_by b (first_point b) (based_start b valid) (found_start b valid)

pub run_group : RunGoes
run_group b pt d w valid fit is h own =
    let based = based_group b pt d w fit is h.based in
    run_by b w.point based (found_group b pt d w fit is h.based.phased h.based.held based.held h.kept)

-- wherever the rule leads
pub run_always : (b : Boot) (es : List Step) (pt : Point) → IsValid b → Leads b (first_point b) es pt → Both b pt
run_always = both_always run_start run_group

pub goes_on_always : GoesOnAlways
goes_on_always = goes_on_by run_start run_group

pub known_always : KnownAlways
known_always b es pt valid leads = (run_always b es pt valid leads).run.based.known

pub found_always : FoundAlways
found_always b es pt valid leads = (run_always b es pt valid leads).run.found

pub receives_in_order : ReceivesInOrder
receives_in_order = receives_in_order_by run_start run_group
