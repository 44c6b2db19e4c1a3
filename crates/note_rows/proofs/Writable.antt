-- Notes as they stand in a file may be written.
use Rattle.std.proofs.Common.{List, [], ◌∷◌}
use Rattle.std.specs.List.{All}
use Rattle.std.proofs.lemmas.List.Elements.{All-nil, All-cons, All-head, All-tail}
use Rattle.gcno_format.specs.Notes.{FunctionNotesValue, NotesValue}
use Rattle.gcno_format.specs.Spelling.{IsWritableFunction, IsWritable, IsFunctionNotes, IsNotes}

all_writable : (fs : List FunctionNotesValue) → All IsFunctionNotes fs → All IsWritableFunction fs
all_writable [] h = All-nil IsWritableFunction
all_writable (f ∷ fs) h =
    All-cons IsWritableFunction f fs (All-head IsFunctionNotes f fs h).writable
    (all_writable fs (All-tail IsFunctionNotes f fs h))

pub writable : (n : NotesValue) → IsNotes n → IsWritable n
writable n h = record { limit = h.limit; few = h.few; functions = all_writable n.functions h.functions }
