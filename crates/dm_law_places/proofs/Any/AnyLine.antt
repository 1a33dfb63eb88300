-- Behind any line there is a kernel with places, where there was one before.
use Rattle.dm_law_places.proofs.Names.{◌≡◌, ◌++◌, false, List, [], ◌∷◌, refl, ◌∙◌, sym, subst, inl, inr, option_map, Option, None, Some, cases_Bool, Pid, Place, pid_eq, applied, MsgId, Process, sent_on, manager, arith}
use Rattle.dm_law_places.proofs.Names.{nat_tests, switchboard, OneKernel, plain_process, pid_eq-is, Line, Stage, Told, View, handled, own_id, receiver_of, view_after, Addresses, Receiver, all_follow, forwards, gets, given, is_told_back}
use Rattle.dm_law_places.proofs.Names.{place_known, place_told, told_back_gets, updated, updated_to, Point, after_line, moved, Placed, Mirrors, with_message, with_process, KeepsPlaces, LineNeeds, MirrorsPoint, ServersApart}
use Rattle.dm_onekernel.specs.Step as kernel
use Rattle.dm_law_places.proofs.Following.Changed.{sent_on_any}
use Rattle.dm_law_places.proofs.Following.Followed.{absent_moved, come_on, moves_forwarded, restarted_mirrors, server_moved, tells_mirrors}
use Rattle.dm_law_places.proofs.Steps.{label_follows}
use Rattle.dm_law_places.proofs.Lines.{lines_keep, mirrors_view}
use Rattle.dm_law_places.proofs.OwnPuts.{absent_put_mirrors}
use Rattle.dm_law_places.proofs.Plainly.{none_own, without_own, without_own_mirrors}
use Rattle.dm_law_places.proofs.Following.Updated.{board_told, children_told, ended_told, manager_told, process_told, switchboard_told}

-- some kernel with places
record Some_ (s : OneKernel) (v : View) (a : Addresses) : Type 0 where
  l : Placed
  mirrors : Mirrors s v a l

abbrev Stands : Point → Type 0
Stands pt = Some_ pt.kernel pt.view pt.addresses

other_view : (s : OneKernel) (v w : View) (a : Addresses) → w.moves ≡ v.moves → Some_ s v a → Some_ s w a
other_view s v w a e h = record { l = h.l; mirrors = mirrors_view s v w a h.l e h.mirrors }

-- a receiver's address changes
one_follows : (s : OneKernel) (v : View) (a : Addresses) (id : MsgId) (place : Place) → Some_ s v a → Some_ s v (given a (gets (Receiver id) place ∷ []))
one_follows s v a id place h =
    record { l = with_message h.l id (option_map (sent_on place.at place.moves) (h.l.bag id)); mirrors = sent_on_any s v a h.l id (h.l.bag id) place refl h.mirrors }

all_follows : (s : OneKernel) (v : View) (a : Addresses) (p : Pid) (ids : List MsgId) → Some_ s v a → Some_ s v (given a (all_follow v a p ids))
all_follows s v a p [] h = h
all_follows s v a p (i ∷ is) h =
    one_follows s v (given a (all_follow v a p is)) i (place_known (v.known v.acting p) (v.moves p) (a (Receiver i))) (all_follows s v a p is h)

forwards_follow : (s : OneKernel) (v : View) (a : Addresses) (l : Placed) (id : MsgId) (o : Option Told) → l.bag (own_id v) ≡ None → Mirrors s v a l → Some_ s v (given a (forwards v a id o))
forwards_follow s v a l id None none h = record { l = l; mirrors = h }
forwards_follow s v a l id (Some t) none h =
    one_follows s v (given a (told_back_gets v a id (is_told_back t.kind))) id (place_known (v.known v.acting t.receiver) (v.moves t.receiver) (a (Receiver id)))
    (record { l = l; mirrors = tells_mirrors s v a l id (is_told_back t.kind) none h })

-- an update
pub no_process : (o : Option Process) → option_map plain_process o ≡ None → o ≡ None
no_process o h1 = grind (arith, nat_tests)

not_there : (s : OneKernel) (v : View) (a : Addresses) (l : Placed) (q : Pid) → Mirrors s v a l → kernel.alive (s.processes q) ≡ None → l.processes q ≡ None
not_there s v a l q h none = no_process (l.processes q) (sym (h.plain.processes q) ∙ none)

process_follows : (s : OneKernel) (v : View) (a : Addresses) (l : Placed) (q r : Pid) (place : Place) (o : Option Process) → l.processes q ≡ o → pid_eq q switchboard ≡ false → pid_eq q manager ≡ false → Mirrors s v a l
    → Some_ s v (λ h. updated_to s a (Some q) (Some (r, place)) h)
process_follows s v a l q r place None there no_board no_manager h = record { l = l; mirrors = ended_told s v a l q r place.at place.moves no_board no_manager there h }
process_follows s v a l q r place (Some x) there no_board no_manager h =
    record { l = with_process l q (Some (applied r place.at place.moves x)); mirrors = process_told s v a l q r place.at place.moves x no_board no_manager there h }

receiver_follows : (s : OneKernel) (v : View) (a : Addresses) (l : Placed) (q r : Pid) (place : Place) → ServersApart s → Mirrors s v a l → Some_ s v (λ h. updated_to s a (Some q) (Some (r, place)) h)
receiver_follows s v a l q r place apart h = elim (cases_Bool (pid_eq q switchboard)) [
  | inl same ↦
      subst (λ (p : Pid). Some_ s v (λ h. updated_to s a (Some p) (Some (r, place)) h)) (sym (pid_eq-is q switchboard same))
      (record { l = board_told l r place.at place.moves; mirrors = switchboard_told s v a l r place.at place.moves (not_there s v a l switchboard h apart.0) h })
  | inr no_board ↦ elim (cases_Bool (pid_eq q manager)) [
    | inl same ↦
        subst (λ (p : Pid). Some_ s v (λ h. updated_to s a (Some p) (Some (r, place)) h)) (sym (pid_eq-is q manager same))
        (record { l = manager_told l r place.at place.moves; mirrors = children_told s v a l r place.at place.moves (not_there s v a l manager h apart.1) h })
    | inr no_manager ↦ process_follows s v a l q r place (l.processes q) refl no_board no_manager h
  ]
]

update_follows : (s : OneKernel) (v : View) (a : Addresses) (l : Placed) (o : Option Told) → ServersApart s → Mirrors s v a l → Some_ s v (λ h. updated s v a o h)
update_follows s v a l None apart h = record { l = l; mirrors = h }
update_follows s v a l (Some t) apart h = elim (place_told t.about) as (λ o. Some_ s v (λ h. updated_to s a (Some t.receiver) o h))
    [ None ↦ record { l = l; mirrors = h } | Some w ↦ receiver_follows s v a l t.receiver w.0 w.1 apart h ]

-- a process has come, or has ended on the way
comes : (pt : Point) (l : Placed) (p : Pid) (o : Option Process) → l.processes p ≡ o → MirrorsPoint pt l → Stands (moved pt (Line.Migration Stage.Restarted p) pt.kernel)
comes pt l p (Some x) there h = record { l = server_moved p (with_process l p (Some (come_on x))); mirrors = restarted_mirrors pt l p x h there }
comes pt l p None none h = record { l = server_moved p l; mirrors = absent_moved pt l p none h }

-- a line
keeps : (pt pt' : Point) (l : Placed) (x : Line) → KeepsPlaces pt x → MirrorsPoint pt l → after_line pt x ≡ Some pt' → Stands pt'
keeps pt pt' l x k h e = record { l = l; mirrors = lines_keep pt pt' l x k h e }

stage_stands : (pt pt' : Point) (l : Placed) (p : Pid) (step : Stage) → MirrorsPoint pt l → after_line pt (Line.Migration step p) ≡ Some pt' → Stands pt'
stage_stands pt pt' l p Stage.Restarted h e =
    let f : moved pt (Line.Migration Stage.Restarted p) pt.kernel ≡ pt' = cc in
    subst Stands f (comes pt l p (l.processes p) refl h)
stage_stands pt pt' l p any_ h e = keeps pt pt' l (Line.Migration any_ p) tt h e

line_stands : (pt pt' : Point) (l : Placed) (x : Line) → LineNeeds pt x → MirrorsPoint pt l → after_line pt x ≡ Some pt' → Stands pt'
line_stands pt pt' l (Line.Label x) needs h e = let (m, step, on) = label_follows pt pt' l x (λ t is. needs) h e in record { l = m; mirrors = on }
line_stands pt pt' l (Line.Put from to id k q) needs h e = elim needs [
  | inl same ↦ keeps pt pt' l (Line.Put from to id k q) same h e
  | inr none ↦
      let f : moved pt (Line.Put from to id k q) pt.kernel ≡ pt' = cc in
      let g = without_own_mirrors pt.kernel pt.view pt.addresses l h in
      subst Stands f (record { l = without_own l; mirrors = absent_put_mirrors pt (without_own l) from to id k q g (none_own pt.kernel pt.view pt.addresses l id none h) })
]
line_stands pt pt' l (Line.Forwarded id m) none h e =
    let s = pt.kernel in
    let v = pt.view in
    let a = pt.addresses in
    let f : moved pt (Line.Forwarded id m) s ≡ pt' = cc in
    let g = without_own_mirrors s v a l h in
    subst Stands f (other_view s v (view_after v (Line.Forwarded id m)) (given a (forwards v a id (v.told id))) (moves_forwarded (handled v id) (receiver_of (v.told id)))
    (forwards_follow s v a (without_own l) id (v.told id) (none_own s v a l (own_id v) none h) g))
line_stands pt pt' l (Line.SentOn p n) needs h e =
    let s = pt.kernel in
    let v = pt.view in
    let a = pt.addresses in
    let ids = v.queue v.acting p ++ v.held v.acting p in
    let f : moved pt (Line.SentOn p n) s ≡ pt' = cc in
    subst Stands f (other_view s v (view_after v (Line.SentOn p n)) (given a (all_follow v a p ids)) refl (all_follows s v a p ids (record { l = l; mirrors = h })))
line_stands pt pt' l (Line.Called p n) needs h e =
    let s = pt.kernel in
    let v = pt.view in
    let a = pt.addresses in
    let ids = v.held v.acting p in
    let f : moved pt (Line.Called p n) s ≡ pt' = cc in
    subst Stands f (other_view s v (view_after v (Line.Called p n)) (given a (all_follow v a p ids)) refl (all_follows s v a p ids (record { l = l; mirrors = h })))
line_stands pt pt' l (Line.Updated id n) apart h e =
    let s = pt.kernel in
    let v = pt.view in
    let a = pt.addresses in
    let f : moved pt (Line.Updated id n) s ≡ pt' = cc in
    subst Stands f (other_view s v (view_after v (Line.Updated id n)) (λ h. updated s v a (v.told id) h) refl (update_follows s v a l (v.told id) apart h))
line_stands pt pt' l (Line.Migration step p) needs h e = stage_stands pt pt' l p step h e
line_stands pt pt' l any_ needs h e = keeps pt pt' l any_ tt h e

pub line_follows : (pt pt' : Point) (l : Placed) (x : Line) → LineNeeds pt x → MirrorsPoint pt l → after_line pt x ≡ Some pt' → (m : Placed) × MirrorsPoint pt' m
line_follows pt pt' l x needs h e = let z = line_stands pt pt' l x needs h e in (z.l, z.mirrors)
