-- Operations at the front of bytes.
use Rattle.std.proofs.Common.{◌≡◌, refl, sym, ap, subst, ◌∙◌, ℕ, true, List, [], ◌∷◌, ◌++◌}
use Rattle.std.proofs.Common.{map, Option, Some, None, pos}
use Rattle.std.specs.Prelude.{slice_get}
use Rattle.std.specs.Option.{option_map}
use Rattle.std.proofs.lemmas.Option.{slice_get-map, same_Some, none-some}
use Rattle.int_ops.specs.Codes.{type_code}
use Rattle.int_ops.specs.declared.types.IntType.{IntType}
use Rattle.int_ops.specs.declared.types.IntType.TheVariants as type
use Rattle.stack_ops.specs.declared.operation.Op.{Op}
use Rattle.stack_ops.specs.declared.operation.Op.TheVariants as op
use Rattle.code_runs.specs.CodeChecks.{number_there}
use Rattle.gcov_items.specs.Items.{word_bytes}
use Rattle.code_file.specs.declared.fault.CodeFault.{CodeFault}
use Rattle.code_file.specs.declared.fault.CodeFault.TheVariants as fault
use Rattle.code_file.specs.OpItems.{op_code, fields_of, number_bytes, field_bytes, op_bytes}
use Rattle.code_file.specs.Decoding.{made_of}
use Rattle.code_file.specs.Reading.{Made, operations, with_byte, with_word, with_number, with_type, with_fields, with_op}
use Rattle.code_file.proofs.Outcomes.{IsItemFault, AreBytes, bytes_both, Outcome, refuses}
use Rattle.code_file.proofs.Outcomes.{nothing, followed, mapped}
use Rattle.code_file.proofs.ItemLaws.{IsByte, byte_outcome, IsWord, word_outcome, IsNumberField, number_outcome}
use Rattle.code_file.proofs.ItemLaws.{IsTypeByte, type_outcome, up_from, in_order}

-- the operations in the order of their codes, with any fields
abbrev pub prototypes : List Op
prototypes =
    op.Push (pos 0)
    ∷ op.Dup
    ∷ op.Drop
    ∷ op.Swap
    ∷ op.Over
    ∷ op.Convert type.Int
    ∷ op.Not
    ∷ op.LoadLocal 0
    ∷ op.StoreLocal 0
    ∷ op.LoadGlobal 0
    ∷ op.StoreGlobal 0
    ∷ op.CheckIndex 0 0
    ∷ op.LoadLocalAt 0 0
    ∷ op.StoreLocalAt 0 0
    ∷ op.LoadGlobalAt 0 0
    ∷ op.StoreGlobalAt 0 0
    ∷ op.Mul type.Int 0
    ∷ op.Div type.Int 0
    ∷ op.Rem type.Int 0
    ∷ op.Add type.Int 0
    ∷ op.Sub type.Int 0
    ∷ op.Shl type.Int 0
    ∷ op.Shr type.Int 0
    ∷ op.Less type.Int 0
    ∷ op.Greater type.Int 0
    ∷ op.LessEqual type.Int 0
    ∷ op.GreaterEqual type.Int 0
    ∷ op.Equal type.Int 0
    ∷ op.NotEqual type.Int 0
    ∷ op.And type.Int 0
    ∷ op.Xor type.Int 0
    ∷ op.Or type.Int 0
    ∷ op.Minus type.Int 0
    ∷ op.Complement type.Int 0
    ∷ op.GetChar
    ∷ op.PutChar 0
    ∷ op.Jump 0
    ∷ op.Back 0
    ∷ op.IfZero 0
    ∷ op.IfNot 0
    ∷ op.CaseJump (pos 0) 0
    ∷ op.Call 0 0
    ∷ op.Return
    ∷ op.Exit
    ∷ op.Count 0
    ∷ op.PathBegin
    ∷ op.PathPass 0
    ∷ []

pub prototypes_made : operations ≡ map made_of prototypes
prototypes_made = refl

prototypes_coded : map op_code prototypes ≡ up_from 0 47
prototypes_coded = refl

-- the fields of an operation with this code
abbrev IsOpOf : ℕ → List ℕ → Op → Type 0
IsOpOf code used o =
    (op_code o ≡ code) × (AreBytes used → (number_there o ≡ true) × (used ≡ field_bytes (fields_of o)))

module _ (at : ℕ) (bytes : List ℕ) (code : ℕ) where
  alone_op : (o : Op) → op_code o ≡ code → number_there o ≡ true → [] ≡ field_bytes (fields_of o)
      → Outcome (λ bytes then. then o bytes at) (IsOpOf code) at bytes
  alone_op o c n f = nothing (IsOpOf code) at bytes o (c, λ are. (n, f))

  word_op : (o : ℕ → Op) → ((w : ℕ) → op_code (o w) ≡ code) → ((w : ℕ) → number_there (o w) ≡ true)
      → ((w : ℕ) → word_bytes w ≡ field_bytes (fields_of (o w)))
      → Outcome (λ bytes then. with_word bytes at (λ w. then (o w))) (IsOpOf code) at bytes
  word_op o c n f =
      mapped (λ bytes then. with_word bytes at then) o IsWord (IsOpOf code) at bytes (word_outcome at bytes)
      (λ used w k. (c w, λ are. (n w, k.1 are ∙ f w)))

  words_op : (o : ℕ → ℕ → Op) → ((w v : ℕ) → op_code (o w v) ≡ code) → ((w v : ℕ) → number_there (o w v) ≡ true)
      → ((w v : ℕ) → word_bytes w ++ word_bytes v ≡ field_bytes (fields_of (o w v)))
      → Outcome (λ bytes then. with_word bytes at (λ w rest next. with_word rest next (λ v. then (o w v)))) (IsOpOf code)
      at bytes
  words_op o c n f =
      followed (λ bytes then. with_word bytes at then) (λ w next bytes then. with_word bytes next (λ v. then (o w v)))
      IsWord (λ w next used x. (v : ℕ) × (x ≡ o w v) × IsWord used v) (IsOpOf code) at bytes (word_outcome at bytes)
      (λ w next rest. mapped (λ bytes then. with_word bytes next then) (o w) IsWord
      (λ used x. (v : ℕ) × (x ≡ o w v) × IsWord used v) next rest (word_outcome next rest) (λ used v k. (v, refl, k)))
      (λ w used x more g k. (
        ap op_code k.1 ∙ c w k.0,
        λ are. (let b = bytes_both used more are in (
          ap number_there k.1 ∙ n w k.0,
          ap (λ (l : List ℕ). l ++ more) (g.1 b.0)
              ∙ (ap (λ (l : List ℕ). word_bytes w ++ l) (k.2.1 b.1)
              ∙ (f w k.0 ∙ ap (λ p. field_bytes (fields_of p)) (sym k.1))),
        )),
      ))

  type_op : (f : CodeFault) → IsItemFault f → (o : IntType → Op) → ((t : IntType) → op_code (o t) ≡ code)
      → ((t : IntType) → number_there (o t) ≡ true)
      → ((t : IntType) → type_code t ∷ [] ≡ field_bytes (fields_of (o t)))
      → Outcome (λ bytes then. with_type f bytes at (λ t. then (o t))) (IsOpOf code) at bytes
  type_op f is o c n s =
      mapped (λ bytes then. with_type f bytes at then) o IsTypeByte (IsOpOf code) at bytes (type_outcome f is at bytes)
      (λ used t k. (c t, λ are. (n t, k ∙ s t)))

  at_op : (f : CodeFault) → IsItemFault f → (o : IntType → ℕ → Op) → ((t : IntType) (w : ℕ) → op_code (o t w) ≡ code)
      → ((t : IntType) (w : ℕ) → number_there (o t w) ≡ true)
      → ((t : IntType) (w : ℕ) → type_code t ∷ word_bytes w ≡ field_bytes (fields_of (o t w)))
      → Outcome (λ bytes then. with_type f bytes at (λ t rest next. with_word rest next (λ w. then (o t w))))
      (IsOpOf code) at bytes
  at_op f is o c n s =
      followed (λ bytes then. with_type f bytes at then) (λ t next bytes then. with_word bytes next (λ w. then (o t w)))
      IsTypeByte (λ t next used x. (w : ℕ) × (x ≡ o t w) × IsWord used w) (IsOpOf code) at bytes
      (type_outcome f is at bytes)
      (λ t next rest. mapped (λ bytes then. with_word bytes next then) (o t) IsWord
      (λ used x. (w : ℕ) × (x ≡ o t w) × IsWord used w) next rest (word_outcome next rest) (λ used w k. (w, refl, k)))
      (λ t used x more g k. (
        ap op_code k.1 ∙ c t k.0,
        λ are. (let b = bytes_both used more are in (
          ap number_there k.1 ∙ n t k.0,
          ap (λ (l : List ℕ). l ++ more) g
              ∙ (ap (λ (l : List ℕ). type_code t ∷ l) (k.2.1 b.1)
              ∙ (s t k.0 ∙ ap (λ p. field_bytes (fields_of p)) (sym k.1))),
        )),
      ))

-- the fields of each operation
fields_outcome : (f : CodeFault) → IsItemFault f → (at : ℕ) (bytes : List ℕ) (o : Op)
    → Outcome (λ bytes then. with_fields f (Some (made_of o)) bytes at then) (IsOpOf (op_code o)) at bytes
fields_outcome f is at bytes (op.Push n) =
    mapped (λ bytes then. with_number f bytes at then) (λ n. op.Push n) IsNumberField (IsOpOf 0) at bytes
    (number_outcome f is at bytes) (λ used n k. (refl, k.1))
fields_outcome f is at bytes op.Dup = alone_op at bytes 1 op.Dup refl refl refl
fields_outcome f is at bytes op.Drop = alone_op at bytes 2 op.Drop refl refl refl
fields_outcome f is at bytes op.Swap = alone_op at bytes 3 op.Swap refl refl refl
fields_outcome f is at bytes op.Over = alone_op at bytes 4 op.Over refl refl refl
fields_outcome f is at bytes (op.Convert t) =
    type_op at bytes 5 f is (λ t. op.Convert t) (λ t. refl) (λ t. refl) (λ t. refl)
fields_outcome f is at bytes op.Not = alone_op at bytes 6 op.Not refl refl refl
fields_outcome f is at bytes (op.LoadLocal w) =
    word_op at bytes 7 (λ w. op.LoadLocal w) (λ w. refl) (λ w. refl) (λ w. refl)
fields_outcome f is at bytes (op.StoreLocal w) =
    word_op at bytes 8 (λ w. op.StoreLocal w) (λ w. refl) (λ w. refl) (λ w. refl)
fields_outcome f is at bytes (op.LoadGlobal w) =
    word_op at bytes 9 (λ w. op.LoadGlobal w) (λ w. refl) (λ w. refl) (λ w. refl)
fields_outcome f is at bytes (op.StoreGlobal w) =
    word_op at bytes 10 (λ w. op.StoreGlobal w) (λ w. refl) (λ w. refl) (λ w. refl)
fields_outcome f is at bytes (op.CheckIndex w v) =
    words_op at bytes 11 (λ w v. op.CheckIndex w v) (λ w v. refl) (λ w v. refl) (λ w v. refl)
fields_outcome f is at bytes (op.LoadLocalAt w v) =
    words_op at bytes 12 (λ w v. op.LoadLocalAt w v) (λ w v. refl) (λ w v. refl) (λ w v. refl)
fields_outcome f is at bytes (op.StoreLocalAt w v) =
    words_op at bytes 13 (λ w v. op.StoreLocalAt w v) (λ w v. refl) (λ w v. refl) (λ w v. refl)
fields_outcome f is at bytes (op.LoadGlobalAt w v) =
    words_op at bytes 14 (λ w v. op.LoadGlobalAt w v) (λ w v. refl) (λ w v. refl) (λ w v. refl)
fields_outcome f is at bytes (op.StoreGlobalAt w v) =
    words_op at bytes 15 (λ w v. op.StoreGlobalAt w v) (λ w v. refl) (λ w v. refl) (λ w v. refl)
fields_outcome f is at bytes (op.Mul t line) =
    at_op at bytes 16 f is (λ t line. op.Mul t line) (λ t w. refl) (λ t w. refl) (λ t w. refl)
fields_outcome f is at bytes (op.Div t line) =
    at_op at bytes 17 f is (λ t line. op.Div t line) (λ t w. refl) (λ t w. refl) (λ t w. refl)
fields_outcome f is at bytes (op.Rem t line) =
    at_op at bytes 18 f is (λ t line. op.Rem t line) (λ t w. refl) (λ t w. refl) (λ t w. refl)
fields_outcome f is at bytes (op.Add t line) =
    at_op at bytes 19 f is (λ t line. op.Add t line) (λ t w. refl) (λ t w. refl) (λ t w. refl)
fields_outcome f is at bytes (op.Sub t line) =
    at_op at bytes 20 f is (λ t line. op.Sub t line) (λ t w. refl) (λ t w. refl) (λ t w. refl)
fields_outcome f is at bytes (op.Shl t line) =
    at_op at bytes 21 f is (λ t line. op.Shl t line) (λ t w. refl) (λ t w. refl) (λ t w. refl)
fields_outcome f is at bytes (op.Shr t line) =
    at_op at bytes 22 f is (λ t line. op.Shr t line) (λ t w. refl) (λ t w. refl) (λ t w. refl)
fields_outcome f is at bytes (op.Less t line) =
    at_op at bytes 23 f is (λ t line. op.Less t line) (λ t w. refl) (λ t w. refl) (λ t w. refl)
fields_outcome f is at bytes (op.Greater t line) =
    at_op at bytes 24 f is (λ t line. op.Greater t line) (λ t w. refl) (λ t w. refl) (λ t w. refl)
fields_outcome f is at bytes (op.LessEqual t line) =
    at_op at bytes 25 f is (λ t line. op.LessEqual t line) (λ t w. refl) (λ t w. refl) (λ t w. refl)
fields_outcome f is at bytes (op.GreaterEqual t line) =
    at_op at bytes 26 f is (λ t line. op.GreaterEqual t line) (λ t w. refl) (λ t w. refl) (λ t w. refl)
fields_outcome f is at bytes (op.Equal t line) =
    at_op at bytes 27 f is (λ t line. op.Equal t line) (λ t w. refl) (λ t w. refl) (λ t w. refl)
fields_outcome f is at bytes (op.NotEqual t line) =
    at_op at bytes 28 f is (λ t line. op.NotEqual t line) (λ t w. refl) (λ t w. refl) (λ t w. refl)
fields_outcome f is at bytes (op.And t line) =
    at_op at bytes 29 f is (λ t line. op.And t line) (λ t w. refl) (λ t w. refl) (λ t w. refl)
fields_outcome f is at bytes (op.Xor t line) =
    at_op at bytes 30 f is (λ t line. op.Xor t line) (λ t w. refl) (λ t w. refl) (λ t w. refl)
fields_outcome f is at bytes (op.Or t line) =
    at_op at bytes 31 f is (λ t line. op.Or t line) (λ t w. refl) (λ t w. refl) (λ t w. refl)
fields_outcome f is at bytes (op.Minus t line) =
    at_op at bytes 32 f is (λ t line. op.Minus t line) (λ t w. refl) (λ t w. refl) (λ t w. refl)
fields_outcome f is at bytes (op.Complement t line) =
    at_op at bytes 33 f is (λ t line. op.Complement t line) (λ t w. refl) (λ t w. refl) (λ t w. refl)
fields_outcome f is at bytes op.GetChar = alone_op at bytes 34 op.GetChar refl refl refl
fields_outcome f is at bytes (op.PutChar w) =
    word_op at bytes 35 (λ w. op.PutChar w) (λ w. refl) (λ w. refl) (λ w. refl)
fields_outcome f is at bytes (op.Jump w) =
    word_op at bytes 36 (λ w. op.Jump w) (λ w. refl) (λ w. refl) (λ w. refl)
fields_outcome f is at bytes (op.Back w) =
    word_op at bytes 37 (λ w. op.Back w) (λ w. refl) (λ w. refl) (λ w. refl)
fields_outcome f is at bytes (op.IfZero w) =
    word_op at bytes 38 (λ w. op.IfZero w) (λ w. refl) (λ w. refl) (λ w. refl)
fields_outcome f is at bytes (op.IfNot w) =
    word_op at bytes 39 (λ w. op.IfNot w) (λ w. refl) (λ w. refl) (λ w. refl)
fields_outcome f is at bytes (op.CaseJump n w) =
    followed (λ bytes then. with_number f bytes at then)
    (λ n next bytes then. with_word bytes next (λ w. then (op.CaseJump n w))) IsNumberField
    (λ n next used x. (w : ℕ) × (x ≡ op.CaseJump n w) × IsWord used w) (IsOpOf 40) at bytes (number_outcome f is at bytes)
    (λ n next rest. mapped (λ bytes then. with_word bytes next then) (λ w. op.CaseJump n w) IsWord
    (λ used x. (w : ℕ) × (x ≡ op.CaseJump n w) × IsWord used w) next rest (word_outcome next rest)
    (λ used w k. (w, refl, k)))
    (λ n used x more g k. (
      ap op_code k.1,
      λ are. (let b = bytes_both used more are in (
        ap number_there k.1 ∙ (g.1 b.0).0,
        ap (λ (l : List ℕ). l ++ more) (g.1 b.0).1
            ∙ (ap (λ (l : List ℕ). number_bytes n ++ l) (k.2.1 b.1)
            ∙ ap (λ p. field_bytes (fields_of p)) (sym k.1)),
      )),
    ))
fields_outcome f is at bytes (op.Call w v) =
    words_op at bytes 41 (λ w v. op.Call w v) (λ w v. refl) (λ w v. refl) (λ w v. refl)
fields_outcome f is at bytes op.Return = alone_op at bytes 42 op.Return refl refl refl
fields_outcome f is at bytes op.Exit = alone_op at bytes 43 op.Exit refl refl refl
fields_outcome f is at bytes (op.Count w) =
    word_op at bytes 44 (λ w. op.Count w) (λ w. refl) (λ w. refl) (λ w. refl)
fields_outcome f is at bytes op.PathBegin = alone_op at bytes 45 op.PathBegin refl refl refl
fields_outcome f is at bytes (op.PathPass w) =
    word_op at bytes 46 (λ w. op.PathPass w) (λ w. refl) (λ w. refl) (λ w. refl)

-- an operation
abbrev pub IsOp : List ℕ → Op → Type 0
IsOp used o = AreBytes used → (number_there o ≡ true) × (used ≡ op_bytes o)

-- the operation of a code, where there is one
prototype_of : (code : ℕ) (m : Made) → slice_get operations code ≡ Some m
    → (o : Op) × (m ≡ made_of o) × (op_code o ≡ code)
prototype_of code m e = go (slice_get prototypes code) refl
  where
    made : slice_get operations code ≡ option_map made_of (slice_get prototypes code)
    made = ap (λ (l : List Made). slice_get l code) prototypes_made ∙ slice_get-map made_of prototypes code

    go : (o : Option Op) → slice_get prototypes code ≡ o → (o : Op) × (m ≡ made_of o) × (op_code o ≡ code)
    go None h = absurd (none-some m (sym (ap (option_map made_of) h) ∙ (sym made ∙ e)))
    go (Some o) h = (
      o,
      same_Some m (made_of o) (sym e ∙ (made ∙ ap (option_map made_of) h)),
      in_order op_code prototypes 47 prototypes_coded code o h,
    )

made_outcome : (f : CodeFault) → IsItemFault f → (code at : ℕ) (bytes : List ℕ) (m : Option Made)
    → slice_get operations code ≡ m
    → Outcome (λ bytes then. with_fields f m bytes at then) (IsOpOf code) at bytes
made_outcome f is code at bytes None e = refuses f is (λ tail then. refl)
made_outcome f is code at bytes (Some m) e =
    let p = prototype_of code m e in
    subst (λ (n : Made). Outcome (λ bytes then. with_fields f (Some n) bytes at then) (IsOpOf code) at bytes) (sym p.1)
    (subst (λ k. Outcome (λ bytes then. with_fields f (Some (made_of p.0)) bytes at then) (IsOpOf k) at bytes) p.2
    (fields_outcome f is at bytes p.0))

pub op_outcome : (at : ℕ) (bytes : List ℕ) → Outcome (λ bytes then. with_op bytes at then) IsOp at bytes
op_outcome at bytes =
    followed (λ bytes then. with_byte bytes at then)
    (λ code next bytes then. with_fields (fault.Opcode at) (slice_get operations code) bytes next then) IsByte
    (λ code next used x. IsOpOf code used x) IsOp at bytes (byte_outcome at bytes)
    (λ code next rest. made_outcome (fault.Opcode at) tt code next rest (slice_get operations code) refl)
    (λ code used o more g k are.
    (let b = bytes_both used more are in
    let h = k.1 b.1 in (
      h.0,
      ap (λ (l : List ℕ). l ++ more) g ∙ (ap (λ (l : List ℕ). code ∷ l) h.1
          ∙ ap (λ n. n ∷ field_bytes (fields_of o)) (sym k.0)),
    )))
