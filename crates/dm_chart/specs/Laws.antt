-- What holds of every picture.
use Rattle.std.specs.Prelude.{◌≡◌, ℕ, List, [], ◌∷◌, ◌++◌, length}
use Rattle.std.specs.List.{flat_map}
use Rattle.dm_link.specs.declared.Pid.{Pid}
use Rattle.dm_line.specs.declared.line.Line.{Line}
use Rattle.dm_chart.specs.declared.role.Letter.{Letter}
use Rattle.dm_chart.specs.declared.role.Role.{Role}
use Rattle.dm_chart.specs.declared.role.Role.TheVariants as role
use Rattle.dm_chart.specs.Kept.{all_groups, kept_of, plus}
use Rattle.dm_chart.specs.Roles.{role_of}
use Rattle.dm_chart.specs.Shapes.{Shape, Column, Bar, Waits, Moves, Group, Arrow, Came, Early, Again, Lost, Beside, shapes}

-- the message of an arrow
abbrev pub letter_of_shape : Shape → List Letter
letter_of_shape (Column m) = []
letter_of_shape (Bar p m row last) = []
letter_of_shape (Waits p m row last) = []
letter_of_shape (Moves p a row b last) = []
letter_of_shape (Group row group e) = []
letter_of_shape (Arrow s x row last) = x ∷ []
letter_of_shape (Came a b row last) = []
letter_of_shape (Early a b row last) = []
letter_of_shape (Again a b row last) = []
letter_of_shape (Lost a b row) = []
letter_of_shape (Beside m row before l) = []

-- the message that a line puts
abbrev pub letter_of_role : Role → List Letter
letter_of_role (role.Put x) = x ∷ []
letter_of_role (role.Head e) = []
letter_of_role (role.Packet a b k n) = []
letter_of_role (role.Taken a b n) = []
letter_of_role (role.Early a b n) = []
letter_of_role (role.Again a b n) = []
letter_of_role (role.Note l) = []
letter_of_role role.Unseen = []

abbrev pub letters_of : List Line → List Letter
letters_of ls = flat_map (λ l. letter_of_role (role_of l)) ls

-- each message that is put has one arrow, and each arrow is a message that is put, in order
abbrev pub ArrowsArePuts : Type 0
ArrowsArePuts = (machines last hidden : ℕ) (ps : List Pid) (ls : List Line) → flat_map letter_of_shape (shapes machines last hidden ps ls) ≡ letters_of ls

-- the messages that the groups of a run put, in order
abbrev pub letters_in : List (List Line) → List Letter
letters_in gs = flat_map letters_of gs

-- those that have an arrow, in order, and the others behind them, which are those that the picture says it leaves out
pub record HasArrows (machines last : ℕ) (ps : List Pid) (groups : List (List Line)) : Type 0 where
  pub others : List Letter
  pub puts : letters_in groups ≡ flat_map letter_of_shape (shapes machines last 0 ps (kept_of all_groups groups).lines) ++ others
  pub none_hidden : (kept_of all_groups groups).hidden ≡ 0
  pub left : (kept_of all_groups groups).left_messages ≡ plus 0 (length others)

-- each message that a run puts has one arrow in the picture of the whole run, or is counted among those that are left out
abbrev pub PutsHaveArrows : Type 0
PutsHaveArrows = (machines last : ℕ) (ps : List Pid) (groups : List (List Line)) → HasArrows machines last ps groups
