-- The handles to which an operation is joined.
use Rattle.std.specs.Prelude.{ℕ, List, [], ◌∷◌, Option, Some, None}
use Rattle.rent_table.specs.declared.handles.JoinedHandles.{JoinedHandles}

abbrev pub handles_in : Option JoinedHandles → List ℕ
handles_in None = []
handles_in (Some handles) = handles.first ∷ handles.more.items
