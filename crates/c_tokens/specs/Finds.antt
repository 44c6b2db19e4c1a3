-- What the functions that cut one item off a text give (own).
use Rattle.std.specs.Prelude.{◌≡◌, ℕ, ◌<◌, ◌≤◌, Bool, true, List, length, take, slice_index, Result, Ok, Err}
use Rattle.c_tokens.specs.declared.bytes.ByteClass.TheVariants as class
use Rattle.c_tokens.specs.declared.items.ItemFront.{ItemFront}
use Rattle.c_tokens.specs.declared.items.ItemFront.TheVariants as front
use Rattle.c_tokens.specs.declared.items.Item.{Item}
use Rattle.c_tokens.specs.declared.token.LexFault.{LexFault}
use Rattle.c_tokens.specs.Bytes.{is_in}
use Rattle.c_tokens.specs.Items.{IsItemOf, IsFaultOf}

-- what is known of the first byte of a text that begins in this way
abbrev pub Begins : ItemFront → List ℕ → Type 0
Begins front.LineComment text = is_in class.Line (slice_index text 0) ≡ true
Begins front.Number text = is_in class.Number (slice_index text 0) ≡ true
Begins front.Word text = is_in class.Word (slice_index text 0) ≡ true
Begins front.Hash text = is_in class.Line (slice_index text 0) ≡ true
Begins f text = Unit {0}

-- the item that begins a text in this way, or its fault
abbrev pub Finds : ItemFront → Bool → List ℕ → ℕ → Result Item LexFault → Type 0
Finds f starts_line text place (Ok item) = IsItemOf f starts_line text (take item.len text) item.kind
Finds f starts_line text place (Err fault) = IsFaultOf f starts_line text place fault

-- the item has at least one byte, and no more than the text
abbrev pub HasLen : List ℕ → Item → Type 0
HasLen text item = (0 < item.len) × (item.len ≤ length text)
