-- Worked lines, and texts that spell no lines.
use Rattle.dm_text.proofs.Names.{◌≡◌, [], ◌∷◌, refl, Some, None, true, false, codes, digits, pid_of, id_of, IntoArea, text, end_text, text_of_lines, pieces, read_number, read_pid, read_id, read_outcome, line_of, end_of, lines_of, trace_of}
use Rattle.dm_link.specs.declared.Kind.TheVariants as link
use Rattle.dm_message.specs.declared.Outcome.TheVariants as ends
use Rattle.dm_message.specs.declared.kind.MessageKind.TheVariants as kind
use Rattle.dm_onekernel.specs.declared.label.Label.TheVariants as label
use Rattle.dm_onekernel.specs.declared.label.Reply.TheVariants as reply
use Rattle.dm_schedule.specs.declared.Step.TheVariants as step
use Rattle.dm_line.specs.declared.end_line.Doing.TheVariants as doing
use Rattle.dm_line.specs.declared.end_line.EndLine.TheVariants as end
use Rattle.dm_line.specs.declared.line.Line.TheVariants as line
use Rattle.dm_line.specs.declared.line.Load.TheVariants as load
use Rattle.dm_line.specs.declared.end_line.Standing.TheVariants as standing

delivered : text_of_lines (line.Head (step.Deliver 0 1 0) ∷ line.Taken 0 1 0 ∷ line.Packet 1 0 0 (load.Ack 1) ∷ []) ≡ codes "deliver 0 1 0\ntaken 0 1 0\npacket 1 0 0 ack 1\n"
unfolding text_of_lines digits
delivered = refl

routed : text (line.Put 0 4 (record { from = pid_of 4 4; n = 14; answer = true }) kind.Block (pid_of 4 4)) ≡ codes "put 0 4 4.4#14! block 4.4\n"
unfolding digits
routed = refl

refused : text (line.Label (label.Refuse (pid_of 3 3) (id_of (pid_of 0 2) 2) reply.TooLong)) ≡ codes "refuse 3.3 0.2#2 6\n"
unfolding digits
refused = refl

asked : text (line.Label (label.Asked (id_of (pid_of 0 2) 9))) ≡ codes "asked 0.2#9\n"
unfolding digits
asked = refl

answered : text (line.Label (label.Answered (id_of (pid_of 0 2) 9) ends.Ended)) ≡ codes "answered 0.2#9 3\n"
unfolding digits
answered = refl

sent_on : text (line.SentOn (pid_of 0 3) 10) ≡ codes "step 6 0.3 10\n"
unfolding digits
sent_on = refl

moving : end_text (end.Process (pid_of 1 3) 2 standing.Arriving (doing.Moving IntoArea (pid_of 0 3) 0 36 600) false 1) ≡ codes "process 1.3 at 2 arriving moving 1 0.3 0 36 600 go 1\n"
unfolding digits
moving = refl

held_link : end_text (end.Link (pid_of 0 3) 11 (record { addr = record { pid = pid_of 0 3; at = 0; moves = 0 }; kind = link.Reply; to_kernel = false; code = 7; channel = 0; area = record { base = 192; len = 320; read = true; write = true } })) ≡ codes "link 0.3 11 reply 0.3 at 0 moves 0 code 7 channel 0 area 192 320 rw\n"
unfolding digits
held_link = refl

memory : end_text (end.Memory (pid_of 0 3) 1 (record { items = 0 ∷ 0 ∷ 189 ∷ [] })) ≡ codes "memory 0.3 1 0000bd\n"
unfolding digits
memory = refl

holding : end_text (end.Holding 1 (pid_of 1 5) (id_of (pid_of 0 0) 1 ∷ id_of (pid_of 0 2) 7 ∷ [])) ≡ codes "holding 1 1.5 0.0#1 0.2#7\n"
unfolding digits
holding = refl

two_lines : trace_of (codes "turn 7\nend 16\n") ≡ Some (record { lines = line.Head (step.Turn 7) ∷ []; ends = end.Groups 16 ∷ [] })
unfolding trace_of line_of end_of pieces read_number
two_lines = refl

-- no line of a group stands behind one at the end
no_group_at_end : trace_of (codes "end 16\nturn 7\n") ≡ None
unfolding trace_of line_of end_of pieces read_number
no_group_at_end = refl

no_lines : lines_of [] ≡ Some []
unfolding lines_of pieces
no_lines = refl

no_line_feed : lines_of (codes "turn 7") ≡ None
unfolding lines_of line_of pieces read_number
no_line_feed = refl

empty_line : lines_of (10 ∷ []) ≡ None
unfolding lines_of line_of pieces read_number
empty_line = refl

zero_in_front : line_of (codes "turn 07") ≡ None
unfolding line_of pieces read_number
zero_in_front = refl

two_spaces : line_of (codes "turn  7") ≡ None
unfolding line_of pieces read_number
two_spaces = refl

no_machine : line_of (codes "turn 256") ≡ None
unfolding line_of pieces read_number
no_machine = refl

stayed : line_of (codes "answered 0.2#9 1") ≡ Some (line.Label (label.Answered (id_of (pid_of 0 2) 9) ends.Stayed))
unfolding line_of pieces read_number read_pid read_id read_outcome
stayed = refl

-- 2 is what the manager answers to a bad request, and no end of a move
no_outcome : line_of (codes "answered 0.2#9 2") ≡ None
unfolding line_of pieces read_number read_pid read_id read_outcome
no_outcome = refl

another_word : line_of (codes "toll 7") ≡ None
unfolding line_of pieces read_number
another_word = refl
