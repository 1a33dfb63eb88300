-- What a message says with places, where it is known what it says without.
use Rattle.dm_law_places.proofs.Names.{◌≡◌, ℕ, List, map, Some, ArrayVec, Pid, Link, PlainLink, plain_link, Outcome, What, PlainWhat, plain_what, arith}

-- a user message
pub record UserWhat (w : What) (code channel : ℕ) (bytes : List ℕ) (ls : List PlainLink) : Type 0 where
  pub body : ArrayVec ℕ
  pub links : ArrayVec Link
  pub is : w ≡ What.User code channel body links
  pub bytes_are : body.items ≡ bytes
  pub links_are : map plain_link links.items ≡ ls

pub user_what : (w : What) (code channel : ℕ) (bytes : List ℕ) (ls : List PlainLink) → plain_what w ≡ Some (PlainWhat.User code channel bytes ls) → UserWhat w code channel bytes ls
user_what w code channel bytes ls h1 = search arith

-- a request to make a process
pub record CreateWhat (w : What) (image : ℕ) (ls : List PlainLink) : Type 0 where
  pub links : ArrayVec Link
  pub is : w ≡ What.Create image links
  pub links_are : map plain_link links.items ≡ ls

pub create_what : (w : What) (image : ℕ) (ls : List PlainLink) → plain_what w ≡ Some (PlainWhat.Create image ls) → CreateWhat w image ls
create_what w image ls h1 = search arith

-- a piece of a data move
pub read_what : (w : What) (base len : ℕ) → plain_what w ≡ Some (PlainWhat.Read base len) → w ≡ What.Read base len
read_what w base len h1 = search arith

pub record WriteWhat (w : What) (base : ℕ) (bytes : List ℕ) : Type 0 where
  pub body : ArrayVec ℕ
  pub is : w ≡ What.Write base body
  pub bytes_are : body.items ≡ bytes

pub write_what : (w : What) (base : ℕ) (bytes : List ℕ) → plain_what w ≡ Some (PlainWhat.Write base bytes) → WriteWhat w base bytes
write_what w base bytes h1 = search arith

pub record BlockWhat (w : What) (bytes : List ℕ) : Type 0 where
  pub body : ArrayVec ℕ
  pub is : w ≡ What.Block body
  pub bytes_are : body.items ≡ bytes

pub block_what : (w : What) (bytes : List ℕ) → plain_what w ≡ Some (PlainWhat.Block bytes) → BlockWhat w bytes
block_what w bytes h1 = search arith

pub stop_what : (w : What) → plain_what w ≡ Some PlainWhat.Stop → w ≡ What.Stop
stop_what w h1 = search arith

pub resume_what : (w : What) → plain_what w ≡ Some PlainWhat.Resume → w ≡ What.Resume
resume_what w h1 = search arith

pub kill_what : (w : What) → plain_what w ≡ Some PlainWhat.Kill → w ≡ What.Kill
kill_what w h1 = search arith

pub written_what : (w : What) → plain_what w ≡ Some PlainWhat.Written → w ≡ What.Written
written_what w h1 = search arith

pub gone_what : (w : What) → plain_what w ≡ Some PlainWhat.Gone → w ≡ What.Gone
gone_what w h1 = search arith

pub created_what : (w : What) (child : Pid) → plain_what w ≡ Some (PlainWhat.Created child) → w ≡ What.Created child
created_what w child h1 = search arith

pub no_room_what : (w : What) → plain_what w ≡ Some PlainWhat.NoRoom → w ≡ What.NoRoom
no_room_what w h1 = search arith

pub move_what : (w : What) (machine : ℕ) → plain_what w ≡ Some (PlainWhat.Move machine) → w ≡ What.Move machine
move_what w machine h1 = search arith

pub moved_what : (w : What) (outcome : Outcome) → plain_what w ≡ Some (PlainWhat.Moved outcome) → w ≡ What.Moved outcome
moved_what w outcome h1 = search arith
