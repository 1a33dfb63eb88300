-- What is said of a trace by the machines is so by the rule.
use Rattle.dm_program.proofs.Names.{Boot, IsValid, due_is, trace_is, verdict_is, CarriesTraces, traced_by_world, traced_by_rule}

pub carries_traces : (b : Boot) → IsValid b → CarriesTraces traced_by_world traced_by_rule b
carries_traces b valid = record { comes_to = λ bytes v h. verdict_is b bytes v valid h; is_of = λ bytes groups ended h. trace_is b bytes groups ended valid h; due_in = λ bytes line due h. due_is b bytes line due valid h }
