-- Texts that are lines, and texts that are none.
use Rattle.dm_shape.proofs.Imports.{◌≡◌, [], true, false, refl, Some, None, codes, pieces, read_number, read_pid, read_id, head_step, has_shape, is_of_shape, is_of}
unfoldable use Rattle.dm_shape.specs.Begins.{fitting_shape, words_that_begin, wrong_word}
use Rattle.dm_schedule.specs.declared.Step.TheVariants as step

line_1 : has_shape (codes "lacks 0.3 300 0") ≡ true
unfolding has_shape is_of_shape is_of pieces read_number read_pid read_id
line_1 = refl

line_2 : has_shape (codes "end 0.3 9") ≡ true
unfolding has_shape is_of_shape is_of pieces read_number read_pid read_id
line_2 = refl

line_3 : has_shape (codes "call 0.4 77 9") ≡ true
unfolding has_shape is_of_shape is_of pieces read_number read_pid read_id
line_3 = refl

line_4 : has_shape (codes "call 0.4 300 4294967295") ≡ true
unfolding has_shape is_of_shape is_of pieces read_number read_pid read_id
line_4 = refl

line_5 : has_shape (codes "ran 255.4294967295 4294967295") ≡ true
unfolding has_shape is_of_shape is_of pieces read_number read_pid read_id
line_5 = refl

line_6 : has_shape (codes "packet 255 0 18446744073709551615 ack 4294967295") ≡ true
unfolding has_shape is_of_shape is_of pieces read_number read_pid read_id
line_6 = refl

line_7 : has_shape (codes "deliver 0 0 18446744073709551615") ≡ true
unfolding has_shape is_of_shape is_of pieces read_number read_pid read_id
line_7 = refl

line_8 : has_shape (codes "step 8 0.3") ≡ true
unfolding has_shape is_of_shape is_of pieces read_number read_pid read_id
line_8 = refl

line_9 : has_shape (codes "step 6 0.3 0") ≡ true
unfolding has_shape is_of_shape is_of pieces read_number read_pid read_id
line_9 = refl

line_10 : has_shape (codes "put 0 1 0.3#1! bury 0.0") ≡ true
unfolding has_shape is_of_shape is_of pieces read_number read_pid read_id
line_10 = refl

line_11 : has_shape (codes "created 0.2#0 1.3") ≡ true
unfolding has_shape is_of_shape is_of pieces read_number read_pid read_id
line_11 = refl

line_12 : has_shape (codes "nospace 0.2#0 4294967295 65536") ≡ true
unfolding has_shape is_of_shape is_of pieces read_number read_pid read_id
line_12 = refl

line_13 : has_shape (codes "none") ≡ true
unfolding has_shape is_of_shape is_of pieces read_number read_pid read_id
line_13 = refl

line_14 : has_shape (codes "idle 255") ≡ true
unfolding has_shape is_of_shape is_of pieces read_number read_pid read_id
line_14 = refl

line_15 : has_shape (codes "final") ≡ true
unfolding has_shape is_of_shape is_of pieces read_number read_pid read_id
line_15 = refl

line_16 : has_shape (codes "process 0.3 ended 77") ≡ true
unfolding has_shape is_of_shape is_of pieces read_number read_pid read_id
line_16 = refl

line_17 : has_shape (codes "process 0.3 at 255 arriving waiting 1 2 3 stopped 4") ≡ true
unfolding has_shape is_of_shape is_of pieces read_number read_pid read_id
line_17 = refl

line_18 : has_shape (codes "process 0.3 at 0 here moving 7 1.3 0 0 1 go 0") ≡ true
unfolding has_shape is_of_shape is_of pieces read_number read_pid read_id
line_18 = refl

line_19 : has_shape (codes "memory 0.3 4294967295 0001") ≡ true
unfolding has_shape is_of_shape is_of pieces read_number read_pid read_id
line_19 = refl

line_20 : has_shape (codes "name ff general 0.1 at 0 moves 1 code 2 channel 300 area 0 0 rw") ≡ true
unfolding has_shape is_of_shape is_of pieces read_number read_pid read_id
line_20 = refl

line_21 : has_shape (codes "queue 0.3 0.4#0 0.4#1!") ≡ true
unfolding has_shape is_of_shape is_of pieces read_number read_pid read_id
line_21 = refl

line_22 : has_shape (codes "stream 0 1 0.3#0") ≡ true
unfolding has_shape is_of_shape is_of pieces read_number read_pid read_id
line_22 = refl

line_23 : has_shape (codes "end 340282366920938463463374607431768211455") ≡ true
unfolding has_shape is_of_shape is_of pieces read_number read_pid read_id
line_23 = refl

line_24 : has_shape (codes "child 1 0.3 at 0") ≡ true
unfolding has_shape is_of_shape is_of pieces read_number read_pid read_id
line_24 = refl

line_25 : has_shape (codes "pending 0.2#7") ≡ true
unfolding has_shape is_of_shape is_of pieces read_number read_pid read_id
line_25 = refl

line_26 : has_shape (codes "registers 0.3 0 1 2 3 4 5 6 7 8 9 10 11 12 13 14 15 4294967295") ≡ true
unfolding has_shape is_of_shape is_of pieces read_number read_pid read_id
line_26 = refl

line_27 : has_shape (codes "asked 0.3#0") ≡ true
unfolding has_shape is_of_shape is_of pieces read_number read_pid read_id
line_27 = refl

line_28 : has_shape (codes "answered 0.2#7 4294967295") ≡ true
unfolding has_shape is_of_shape is_of pieces read_number read_pid read_id
line_28 = refl

other_1 : has_shape (codes "") ≡ false
unfolding has_shape is_of_shape is_of pieces read_number read_pid read_id
other_1 = refl

other_2 : has_shape (codes "idle") ≡ false
unfolding has_shape is_of_shape is_of pieces read_number read_pid read_id
other_2 = refl

other_3 : has_shape (codes "idle 256") ≡ false
unfolding has_shape is_of_shape is_of pieces read_number read_pid read_id
other_3 = refl

other_4 : has_shape (codes "idle 00") ≡ false
unfolding has_shape is_of_shape is_of pieces read_number read_pid read_id
other_4 = refl

other_5 : has_shape (codes "idle  0") ≡ false
unfolding has_shape is_of_shape is_of pieces read_number read_pid read_id
other_5 = refl

other_6 : has_shape (codes "idle 0 ") ≡ false
unfolding has_shape is_of_shape is_of pieces read_number read_pid read_id
other_6 = refl

other_7 : has_shape (codes "idle 0\r") ≡ false
unfolding has_shape is_of_shape is_of pieces read_number read_pid read_id
other_7 = refl

other_8 : has_shape (codes "turn 0 0") ≡ false
unfolding has_shape is_of_shape is_of pieces read_number read_pid read_id
other_8 = refl

other_9 : has_shape (codes "turn +0") ≡ false
unfolding has_shape is_of_shape is_of pieces read_number read_pid read_id
other_9 = refl

other_10 : has_shape (codes "settle") ≡ false
unfolding has_shape is_of_shape is_of pieces read_number read_pid read_id
other_10 = refl

other_11 : has_shape (codes "round") ≡ false
unfolding has_shape is_of_shape is_of pieces read_number read_pid read_id
other_11 = refl

other_12 : has_shape (codes "spin 1") ≡ false
unfolding has_shape is_of_shape is_of pieces read_number read_pid read_id
other_12 = refl

other_13 : has_shape (codes "asked 0.3") ≡ false
unfolding has_shape is_of_shape is_of pieces read_number read_pid read_id
other_13 = refl

other_14 : has_shape (codes "end 0.3 4294967296") ≡ false
unfolding has_shape is_of_shape is_of pieces read_number read_pid read_id
other_14 = refl

other_15 : has_shape (codes "end 340282366920938463463374607431768211456") ≡ false
unfolding has_shape is_of_shape is_of pieces read_number read_pid read_id
other_15 = refl

other_16 : has_shape (codes "ran 0.3") ≡ false
unfolding has_shape is_of_shape is_of pieces read_number read_pid read_id
other_16 = refl

other_17 : has_shape (codes "ran 0 3") ≡ false
unfolding has_shape is_of_shape is_of pieces read_number read_pid read_id
other_17 = refl

other_18 : has_shape (codes "send 0.3 0.3#") ≡ false
unfolding has_shape is_of_shape is_of pieces read_number read_pid read_id
other_18 = refl

other_19 : has_shape (codes "send 0.3 0.3#0!!") ≡ false
unfolding has_shape is_of_shape is_of pieces read_number read_pid read_id
other_19 = refl

other_20 : has_shape (codes "send 0.3 0.3#0!1") ≡ false
unfolding has_shape is_of_shape is_of pieces read_number read_pid read_id
other_20 = refl

other_21 : has_shape (codes "send 0.3 0.3#0#0") ≡ false
unfolding has_shape is_of_shape is_of pieces read_number read_pid read_id
other_21 = refl

other_22 : has_shape (codes "wait 0.3.1") ≡ false
unfolding has_shape is_of_shape is_of pieces read_number read_pid read_id
other_22 = refl

other_23 : has_shape (codes "wait 256.3") ≡ false
unfolding has_shape is_of_shape is_of pieces read_number read_pid read_id
other_23 = refl

other_24 : has_shape (codes "packet 0 1 18446744073709551616 data 0") ≡ false
unfolding has_shape is_of_shape is_of pieces read_number read_pid read_id
other_24 = refl

other_25 : has_shape (codes "packet 0 1 0 word 0") ≡ false
unfolding has_shape is_of_shape is_of pieces read_number read_pid read_id
other_25 = refl

other_26 : has_shape (codes "put 0 1 0.3#0 told 0.4") ≡ false
unfolding has_shape is_of_shape is_of pieces read_number read_pid read_id
other_26 = refl

other_27 : has_shape (codes "step 6 0.3") ≡ false
unfolding has_shape is_of_shape is_of pieces read_number read_pid read_id
other_27 = refl

other_28 : has_shape (codes "step 3 0.3 0") ≡ false
unfolding has_shape is_of_shape is_of pieces read_number read_pid read_id
other_28 = refl

other_29 : has_shape (codes "step 9 0.3") ≡ false
unfolding has_shape is_of_shape is_of pieces read_number read_pid read_id
other_29 = refl

other_30 : has_shape (codes "step 0 0.3") ≡ false
unfolding has_shape is_of_shape is_of pieces read_number read_pid read_id
other_30 = refl

other_31 : has_shape (codes "memory 0.3 0 0100") ≡ false
unfolding has_shape is_of_shape is_of pieces read_number read_pid read_id
other_31 = refl

other_32 : has_shape (codes "memory 0.3 0 ") ≡ false
unfolding has_shape is_of_shape is_of pieces read_number read_pid read_id
other_32 = refl

other_33 : has_shape (codes "memory 0.3 0 0A") ≡ false
unfolding has_shape is_of_shape is_of pieces read_number read_pid read_id
other_33 = refl

other_34 : has_shape (codes "memory 0.3 0 1") ≡ false
unfolding has_shape is_of_shape is_of pieces read_number read_pid read_id
other_34 = refl

other_35 : has_shape (codes "name general 0.1 at 0 moves 1 code 2 channel 3 area 0 0 -") ≡ false
unfolding has_shape is_of_shape is_of pieces read_number read_pid read_id
other_35 = refl

other_36 : has_shape (codes "queue 0.3") ≡ false
unfolding has_shape is_of_shape is_of pieces read_number read_pid read_id
other_36 = refl

other_37 : has_shape (codes "stream 0 1") ≡ false
unfolding has_shape is_of_shape is_of pieces read_number read_pid read_id
other_37 = refl

other_38 : has_shape (codes "process 0.3 at 0 there ready go 0") ≡ false
unfolding has_shape is_of_shape is_of pieces read_number read_pid read_id
other_38 = refl

other_39 : has_shape (codes "link 0.3 0 general 0.1 at 0 moves 1 code 2 channel 3 area 0 0 wr") ≡ false
unfolding has_shape is_of_shape is_of pieces read_number read_pid read_id
other_39 = refl

other_40 : has_shape (codes "Turn 0") ≡ false
unfolding has_shape is_of_shape is_of pieces read_number read_pid read_id
other_40 = refl

other_41 : has_shape (codes "answered 0.2#7") ≡ false
unfolding has_shape is_of_shape is_of pieces read_number read_pid read_id
other_41 = refl

head_1 : head_step (codes "turn 3") ≡ Some (step.Turn 3)
unfolding head_step pieces read_number read_pid
head_1 = refl

head_2 : head_step (codes "tick 255") ≡ Some (step.Tick 255)
unfolding head_step pieces read_number read_pid
head_2 = refl

head_3 : head_step (codes "deliver 0 1 18446744073709551615") ≡ Some (step.Deliver 0 1 18446744073709551615)
unfolding head_step pieces read_number read_pid
head_3 = refl

head_4 : head_step (codes "deliver 0 1 18446744073709551616") ≡ None
unfolding head_step pieces read_number read_pid
head_4 = refl

head_5 : head_step (codes "migrate 1.3 2") ≡ Some (step.Migrate (record { home = 1; num = 3 }) 2)
unfolding head_step pieces read_number read_pid
head_5 = refl

head_6 : head_step (codes "migrate 1.3") ≡ None
unfolding head_step pieces read_number read_pid
head_6 = refl

head_7 : head_step (codes "round") ≡ None
unfolding head_step pieces read_number read_pid
head_7 = refl

head_8 : head_step (codes "final") ≡ None
unfolding head_step pieces read_number read_pid
head_8 = refl

begin_1 : wrong_word (codes "out 0.3") ≡ None
unfolding wrong_word words_that_begin fitting_shape is_of pieces read_number read_pid read_id
begin_1 = refl

begin_2 : wrong_word (codes "outt 0.3") ≡ Some (codes "outt")
unfolding wrong_word words_that_begin fitting_shape is_of pieces read_number read_pid read_id
begin_2 = refl

begin_3 : wrong_word (codes "out buffer") ≡ Some (codes "buffer")
unfolding wrong_word words_that_begin fitting_shape is_of pieces read_number read_pid read_id
begin_3 = refl

-- the lines at the end of a run are in no group
begin_4 : wrong_word (codes "end 100") ≡ Some (codes "100")
unfolding wrong_word words_that_begin fitting_shape is_of pieces read_number read_pid read_id
begin_4 = refl

begin_5 : wrong_word (codes "step 6 0.3 1 2") ≡ Some (codes "2")
unfolding wrong_word words_that_begin fitting_shape is_of pieces read_number read_pid read_id
begin_5 = refl

begin_6 : wrong_word (codes "step 8 0.3") ≡ None
unfolding wrong_word words_that_begin fitting_shape is_of pieces read_number read_pid read_id
begin_6 = refl

begin_7 : wrong_word (codes "idle ") ≡ Some []
unfolding wrong_word words_that_begin fitting_shape is_of pieces read_number read_pid read_id
begin_7 = refl
