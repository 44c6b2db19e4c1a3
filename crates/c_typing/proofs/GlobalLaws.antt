-- The globals of a source: their lengths, the types of their cells, and the numbers that these begin with.
use Rattle.std.proofs.Common.{
  arith,
  ◌≡◌,
  refl,
  sym,
  ap,
  ◌∙◌,
  subst,
  ℕ,
  zero,
  suc,
  ◌+◌,
  ◌-◌,
  ◌≤◌,
  ℤ,
  pos,
  List,
  [],
  ◌∷◌,
  ◌++◌,
  length,
  map,
  get_or,
  replicate,
  Option,
  Some,
  None,
}
use Rattle.std.specs.Prelude.{slice_get, sum}
use Rattle.std.proofs.lemmas.List.Sums.{sum_by-cons}
use Rattle.std.proofs.lemmas.List.{length-append, length-replicate}
use Rattle.int_ops.specs.declared.types.IntType.{IntType}
use Rattle.int_ops.specs.declared.types.IntType.TheVariants as type
use Rattle.int_ops.specs.Ranges.{Range}
use Rattle.int_ops.proofs.TypeLaws.{conv_range}
use Rattle.c_tree.specs.declared.typed_expr.CellAt.TheVariants as cell
use Rattle.c_tree.specs.Expr.{Expr}
use Rattle.c_tree.specs.Stmt.{Size, Init, Var}
use Rattle.c_tree.specs.Tree.{Outer}
use Rattle.c_tree.specs.Sound.{Each, IsLength}
use Rattle.c_tree.specs.TypedParts.{cells_of}
use Rattle.c_typing.specs.declared.fault.TypeFault.TheVariants as fault
use Rattle.c_typing.specs.Names.{Scope as Names, Here}
use Rattle.c_typing.specs.TypedForms.{number_type}
use Rattle.c_typing.specs.ExprFaults.{void_value, value_faults}
use Rattle.c_typing.specs.Declarations.{
  array_length,
  length_of,
  var_length,
  declare_var,
  size_faults,
  form_faults,
  again_faults,
  declarator_faults,
  global_faults,
  globals_faults,
  number,
  given_numbers,
  filled,
  numbers,
  all_numbers,
}
use Rattle.c_typing.specs.Sources.{File, after_outer, outer_faults, outers_faults, global_numbers}
use Rattle.c_typing.proofs.TypeLaws.{not_none, none_left, none_right}
use Rattle.c_typing.proofs.DeclSound.{is_length, mapped, fits_in}

-- the lengths of variables that are declared one behind another, and of all globals
abbrev pub vars_lengths : Here → List Var → List (Option ℕ)
vars_lengths h [] = []
vars_lengths h (v ∷ vs) = var_length h.scopes v ∷ vars_lengths (declare_var cell.Global h v) vs

abbrev pub lengths_of : List (List ℕ) → File → List Outer → List (Option ℕ)
lengths_of names file [] = []
lengths_of names file (Outer.Vars vars ∷ rest) =
    vars_lengths file.here vars ++ lengths_of names (after_outer names file (Outer.Vars vars)) rest
lengths_of names file (o ∷ rest) = lengths_of names (after_outer names file o) rest

-- the types of their cells
abbrev pub vars_types : Here → List Var → List IntType
vars_types h [] = []
vars_types h (v ∷ vs) =
    replicate (cells_of (var_length h.scopes v)) (number_type v.base) ++ vars_types (declare_var cell.Global h v) vs

abbrev pub cell_types : List (List ℕ) → File → List Outer → List IntType
cell_types names file [] = []
cell_types names file (Outer.Vars vars ∷ rest) =
    vars_types file.here vars ++ cell_types names (after_outer names file (Outer.Vars vars)) rest
cell_types names file (o ∷ rest) = cell_types names (after_outer names file o) rest

each_both : {A : Type 0} (P : A → Type 0) (xs ys : List A) → Each P xs → Each P ys → Each P (xs ++ ys)
each_both P [] ys left right = right
each_both P (x ∷ xs) ys left right = (left.0, each_both P xs ys left.1 right)

vars_long : (vs : List Var) (h : Here) → Each (λ n. IsLength (cells_of n)) (vars_lengths h vs)
vars_long [] h = tt
vars_long (v ∷ vs) h = (is_length h.scopes v.size v.init, vars_long vs (declare_var cell.Global h v))

-- the globals' lengths are in range
pub all_long : (outers : List Outer) (names : List (List ℕ)) (file : File) → Each (λ n. IsLength (cells_of n))
    (lengths_of names file outers)
all_long [] names file = tt
all_long (Outer.Vars vars ∷ rest) names file =
    each_both (λ n. IsLength (cells_of n)) (vars_lengths file.here vars) _ (vars_long vars file.here)
    (all_long rest names (after_outer names file (Outer.Vars vars)))
all_long (Outer.Prototype head ∷ rest) names file = all_long rest names (after_outer names file (Outer.Prototype head))
all_long (Outer.Function head body ∷ rest) names file =
    all_long rest names (after_outer names file (Outer.Function head body))

sum_one : (x : ℕ) (xs : List ℕ) → sum (x ∷ xs) ≡ x + sum xs
sum_one x xs = sum_by-cons (λ n. n) x xs

sum_on : (xs ys : List ℕ) → sum (xs ++ ys) ≡ sum xs + sum ys
sum_on [] ys = omega arith
sum_on (x ∷ xs) ys =
    let rest = sum_on xs ys in
    let left : sum (x ∷ xs) ≡ x + sum xs = sum_one x xs in
    let all : sum ((x ∷ xs) ++ ys) ≡ x + sum (xs ++ ys) = sum_one x (xs ++ ys) in
    omega (arith, rest, left, all)

map_on : {A B : Type 0} (f : A → B) (xs ys : List A) → map f (xs ++ ys) ≡ map f xs ++ map f ys
map_on f [] ys = refl
map_on f (x ∷ xs) ys = ap (λ zs. f x ∷ zs) (map_on f xs ys)

vars_sum : (vs : List Var) (h : Here) → sum (map cells_of (vars_lengths h vs)) ≡ length (vars_types h vs)
vars_sum [] h = refl
vars_sum (v ∷ vs) h =
    let rest = vars_sum vs (declare_var cell.Global h v) in
    let more = length-append (replicate (cells_of (var_length h.scopes v)) (number_type v.base))
    (vars_types (declare_var cell.Global h v) vs) in
    let same = length-replicate (cells_of (var_length h.scopes v)) (number_type v.base) in
    sum_one (cells_of (var_length h.scopes v)) (map cells_of (vars_lengths (declare_var cell.Global h v) vs))
    ∙ (ap (λ k. cells_of (var_length h.scopes v) + k) rest ∙ sym
    (more ∙ ap (λ k. k + length (vars_types (declare_var cell.Global h v) vs)) same))

-- there are as many types as cells
pub all_sum : (outers : List Outer) (names : List (List ℕ)) (file : File) → sum
    (map cells_of (lengths_of names file outers)) ≡ length (cell_types names file outers)
all_sum [] names file = refl
all_sum (Outer.Vars vars ∷ rest) names file =
    let later = after_outer names file (Outer.Vars vars) in
    let x = ap sum (map_on cells_of (vars_lengths file.here vars) (lengths_of names later rest)) in
    let y = sum_on (map cells_of (vars_lengths file.here vars)) (map cells_of (lengths_of names later rest)) in
    let z = length-append (vars_types file.here vars) (cell_types names later rest) in
    let u = vars_sum vars file.here in
    let w = all_sum rest names later in
    omega (arith, x, y, z, u, w)
all_sum (Outer.Prototype head ∷ rest) names file = all_sum rest names (after_outer names file (Outer.Prototype head))
all_sum (Outer.Function head body ∷ rest) names file =
    all_sum rest names (after_outer names file (Outer.Function head body))

-- each number is one of the type that stands at its place, and there are as many
abbrev pub AllIn : List IntType → List ℤ → Type 0
AllIn [] [] = Unit {0}
AllIn (t ∷ ts) (n ∷ ns) = Range t n × AllIn ts ns
AllIn _ _ = ⊥

all_in_on : (ts us : List IntType) (ns ms : List ℤ) → AllIn ts ns → AllIn us ms → AllIn (ts ++ us) (ns ++ ms)
all_in_on [] us [] ms left right = right
all_in_on [] us (n ∷ ns) ms left right = absurd left
all_in_on (t ∷ ts) us [] ms left right = absurd left
all_in_on (t ∷ ts) us (n ∷ ns) ms left right = (left.0, all_in_on ts us ns ms left.1 right)

zero_in : (t : IntType) → Range t (pos 0)
zero_in type.Bool = conv_range type.Bool (pos 0)
zero_in type.Char = conv_range type.Char (pos 0)
zero_in type.SignedChar = conv_range type.SignedChar (pos 0)
zero_in type.UnsignedChar = conv_range type.UnsignedChar (pos 0)
zero_in type.Short = conv_range type.Short (pos 0)
zero_in type.UnsignedShort = conv_range type.UnsignedShort (pos 0)
zero_in type.Int = conv_range type.Int (pos 0)
zero_in type.UnsignedInt = conv_range type.UnsignedInt (pos 0)
zero_in type.Long = conv_range type.Long (pos 0)
zero_in type.UnsignedLong = conv_range type.UnsignedLong (pos 0)

zeros_in : (k : ℕ) (t : IntType) → AllIn (replicate k t) (replicate k (pos 0))
zeros_in zero t = tt
zeros_in (suc k) t = (zero_in t, zeros_in k t)

filled_in : (given : List ℤ) (k : ℕ) (t : IntType) → Each (Range t) given → length given ≤ k → AllIn (replicate k t)
    (filled k given)
filled_in [] k t is fits = subst (λ m. AllIn (replicate k t) (replicate m (pos 0))) whole (zeros_in k t)
  where
    whole : k ≡ k - 0
    whole = omega arith
filled_in (n ∷ ns) zero t is fits = absurd (omega (arith, fits))
filled_in (n ∷ ns) (suc k) t is fits = (
  is.0,
  subst (λ m. AllIn (replicate k t) (ns ++ replicate m (pos 0))) less
      (filled_in ns k t is.1 (omega (arith, fits))),
)
  where
    less : k - length ns ≡ suc k - length (n ∷ ns)
    less = omega arith

numbers_in : (es : List Expr) (n : List Names) (t : IntType) → Each (Range t) (map (number n t) es)
numbers_in [] n t = tt
numbers_in (e ∷ es) n t = (conv_range t _, numbers_in es n t)

given_in : (init : Init) (n : List Names) (t : IntType) → Each (Range t) (given_numbers n t init)
given_in Init.Absent n t = tt
given_in (Init.One e) n t = (conv_range t _, tt)
given_in (Init.Several es) n t = numbers_in es n t

given_fits : (z : Size) (init : Init) (before n : List Names) (t : IntType) (place : ℕ) → size_faults before z init
    place ≡ [] → form_faults z init place ≡ []
    → length (given_numbers n t init) ≤ cells_of (length_of before z init)
given_fits z Init.Absent before n t place sized form = omega arith
given_fits Size.Scalar (Init.One e) before n t place sized form = omega arith
given_fits Size.Unsized (Init.One e) before n t place sized form = absurd (not_none _ _ form)
given_fits (Size.Len l) (Init.One e) before n t place sized form = absurd (not_none _ _ form)
given_fits Size.Scalar (Init.Several es) before n t place sized form = absurd (not_none _ _ form)
given_fits Size.Unsized (Init.Several es) before n t place sized form =
    let x = mapped (number n t) es in
    let y = fits_in (array_length before Size.Unsized (Init.Several es)) (length es) (fault.ArraySize place) sized in
    omega (arith, x, y)
given_fits (Size.Len l) (Init.Several es) before n t place sized form =
    let x = mapped (number n t) es in
    let y = fits_in (array_length before (Size.Len l) (Init.Several es)) (length es) (fault.ArraySize place)
    (none_right (value_faults before l) _ sized) in
    omega (arith, x, y)

global_in : (h : Here) (v : Var) → global_faults h v ≡ [] → AllIn
    (replicate (cells_of (var_length h.scopes v)) (number_type v.base)) (numbers h v)
global_in h v none =
    let rest = none_right (void_value v.base v.place) _ (none_left (declarator_faults h.scopes v) _ none) in
    let form = none_right (again_faults h.scopes v.name v.place) _
    (none_right (size_faults h.scopes v.size v.init v.place) _ rest) in
    filled_in (given_numbers (declare_var cell.Global h v).scopes (number_type v.base) v.init)
    (cells_of (var_length h.scopes v)) (number_type v.base)
    (given_in v.init (declare_var cell.Global h v).scopes (number_type v.base))
    (given_fits v.size v.init h.scopes (declare_var cell.Global h v).scopes (number_type v.base) v.place
    (none_left _ _ rest) form)

vars_in : (vs : List Var) (h : Here) → globals_faults h vs ≡ [] → AllIn (vars_types h vs) (all_numbers h vs)
vars_in [] h none = tt
vars_in (v ∷ vs) h none =
    all_in_on (replicate (cells_of (var_length h.scopes v)) (number_type v.base))
    (vars_types (declare_var cell.Global h v) vs) (numbers h v)
    (all_numbers (declare_var cell.Global h v) vs) (global_in h v (none_left _ _ none))
    (vars_in vs (declare_var cell.Global h v) (none_right (global_faults h v) _ none))

-- the numbers that the globals begin with, each in the type of its cell
pub all_in : (outers : List Outer) (names : List (List ℕ)) (file : File) → outers_faults names file outers ≡ []
    → AllIn (cell_types names file outers) (global_numbers names file outers)
all_in [] names file none = tt
all_in (Outer.Vars vars ∷ rest) names file none =
    all_in_on (vars_types file.here vars) (cell_types names (after_outer names file (Outer.Vars vars)) rest)
    (all_numbers file.here vars)
    (global_numbers names (after_outer names file (Outer.Vars vars)) rest) (vars_in vars file.here (none_left _ _ none))
    (all_in rest names (after_outer names file (Outer.Vars vars))
    (none_right (outer_faults names file (Outer.Vars vars)) _ none))
all_in (Outer.Prototype head ∷ rest) names file none =
    all_in rest names (after_outer names file (Outer.Prototype head))
    (none_right (outer_faults names file (Outer.Prototype head)) _ none)
all_in (Outer.Function head body ∷ rest) names file none =
    all_in rest names (after_outer names file (Outer.Function head body))
    (none_right (outer_faults names file (Outer.Function head body)) _ none)

-- there are as many numbers as types
pub same_number : (ts : List IntType) (ns : List ℤ) → AllIn ts ns → length ts ≡ length ns
same_number [] [] h = refl
same_number [] (n ∷ ns) h = absurd h
same_number (t ∷ ts) [] h = absurd h
same_number (t ∷ ts) (n ∷ ns) h = ap suc (same_number ts ns h.1)

-- and each is in its type
pub number_in : (ts : List IntType) (ns : List ℤ) (k : ℕ) (n : ℤ) → AllIn ts ns → slice_get ns k ≡ Some n → Range
    (get_or ts k type.Int) n
number_in [] [] k n h e = (let none : ◌≡◌ {A = Option ℤ} None (Some n) = e in absurd (cc))
number_in [] (m ∷ ns) k n h e = absurd h
number_in (t ∷ ts) [] k n h e = absurd h
number_in (t ∷ ts) (m ∷ ns) zero n h e =
    let same : ◌≡◌ {A = Option ℤ} (Some m) (Some n) = e in
    let is : m ≡ n = cc in
    subst (Range t) is h.0
number_in (t ∷ ts) (m ∷ ns) (suc k) n h e = number_in ts ns k n h.1 e
