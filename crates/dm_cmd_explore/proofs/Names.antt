-- What the proofs of this crate name of what lies below it.
pub use Rattle.std.specs.Prelude.{OnErr}
pub use Rattle.dm_outside.specs.declared.Failed.{Failed}
pub use Rattle.dm_world.proofs.Names.{map, option_map}
pub use Rattle.dm_run.proofs.Names.{All-append, OnOk, appended, zero}
pub use Rattle.dm_run.specs.Appended.{IsCutShort}
pub use Rattle.dm_explore.specs.AnswerText.{answer_text}
pub use Rattle.dm_explore.specs.Answers.{Answer, Enough, Found, FoundAt, Looked, NoneWithin, Nothing, and_then, answer, answer_said, by_length, look_through}
pub use Rattle.dm_explore.specs.Asked.{Bounds, Question}
pub use Rattle.dm_explore.specs.Finds.{finds}
pub use Rattle.dm_explore.specs.Places.{tried}
pub use Rattle.dm_explore.specs.Search.{AllWent, AreAsked, IsRequest}
pub use Rattle.dm_words.proofs.Names.{ExploreIsWithin, list_all}
pub use Rattle.dm_words.specs.declared.explore.Exploration.{Exploration}
pub use Rattle.dm_words.specs.declared.explore.WrittenMove.{WrittenMove}
pub use Rattle.dm_front.proofs.Deciding.{said_same}
pub use Rattle.dm_front.proofs.Kept.{Kept}
pub use Rattle.dm_front.proofs.Meeting.{all_read, err_passed, lack_unread, unwritten}
pub use Rattle.dm_front.proofs.Names.{All, All-cons, All-nil, Alone, Around, BlamesSink, Bool, Boot, BootRefused, Done, Err, Input, IsValid, IsWant, LabelsRefused, List, MeetsShelf, MeetsSink, NoBoot, NoMemory, None, NotFound, Ok, Option}
pub use Rattle.dm_front.proofs.Names.{Outside, ReadFault, Result, RoseOrFull, SaysBoot, ScheduleRefused, Some, Status, Step, TooLong, TraceRefused, Undecided, Usage, World, Worn, WriteFault, [], ap, arith, false, inl, inr, length, nat_lt}
pub use Rattle.dm_front.proofs.Names.{nat_tests, outside, refl, sink_around, subst, suc, sym, true, ℕ, ⊤, ◌&&◌, ◌++◌, ◌+◌, ◌<◌, ◌∙◌, ◌∷◌, ◌≡◌, ◌⊎◌}
pub use Rattle.dm_front.proofs.Saying.{silent_boot}
pub use Rattle.dm_front.proofs.Systems.{one_lack, only_lack}
pub use Rattle.dm_front.specs.Written.{unless_failed}
pub use Rattle.dm_cmd_explore.specs.ByWorld.{answered_by_world}
pub use Rattle.dm_cmd_explore.specs.Explores.{AnswerMeans, Answers, ExploreIsDecided, ExploreMeets, ExploreSays, GivesNone, IsOutside, RefusesNames, SaysExplore, TellsOrNot, all_written, are_for, asked_as, bounds_for, call_asked}
pub use Rattle.dm_cmd_explore.specs.Explores.{explore_promise, is_move_for, is_name_for, move_asked, pid_named, question_for, question_of, status_of_answer}
