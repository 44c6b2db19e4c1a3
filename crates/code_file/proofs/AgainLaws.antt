-- What is spelled is read again: the items of a code that breaks no rule and fits words.
use Rattle.std.proofs.Common.{◌≡◌, refl, ap, ◌∙◌, ℕ, ◌+◌, ◌-◌, ◌^◌, ◌<◌}
use Rattle.std.proofs.Common.{Bool, true, false, cond, List, [], ◌∷◌, ◌++◌, length}
use Rattle.std.proofs.Common.{Some, ℤ, pos, negsuc, append_assoc, length-append, arith}
use Rattle.std.specs.Prelude.{nat_lt, nat_le}
use Rattle.std.proofs.lemmas.Nat.{from_le_bytes-to_le_bytes_4, from_le_bytes-to_le_bytes_8}
use Rattle.std.proofs.lemmas.Bool.{leb-true, ltb-false, le-ltb, le-leb}
use Rattle.int_ops.specs.declared.types.IntType.{IntType}
use Rattle.int_ops.specs.Codes.{type_code}
use Rattle.stack_ops.specs.declared.operation.Op.{Op}
use Rattle.stack_ops.specs.declared.operation.Op.TheVariants as op
use Rattle.code_runs.specs.CodeChecks.{is_number, number_there}
use Rattle.code_runs.proofs.CheckLaws.{and-both}
use Rattle.gcov_items.specs.Items.{word_bytes, long_bytes}
use Rattle.code_file.specs.declared.fault.CodeFault.{CodeFault}
use Rattle.code_file.specs.declared.fault.CodeFault.TheVariants as fault
use Rattle.code_file.specs.OpItems.{fields_of, number_bytes, op_bytes}
use Rattle.code_file.specs.InWords.{FitWords, words_of}
use Rattle.code_file.specs.Reading.{with_word, with_long, wanted, with_field, number_of, if_number, with_number}
use Rattle.code_file.specs.Reading.{with_type, with_op}
use Rattle.code_file.proofs.Outcomes.{Then}
use Rattle.code_file.proofs.ItemLaws.{type_at}

pub word_again : (n : ℕ) → n < 2 ^ 32 → (rest : List ℕ) (at : ℕ) (then : Then ℕ)
    → with_word (word_bytes n ++ rest) at then ≡ then n rest (at + 4)
word_again n lt rest at then = ap (λ m. then m rest (at + 4)) (from_le_bytes-to_le_bytes_4 n lt)

pub long_again : (n : ℕ) → n < 2 ^ 64 → (rest : List ℕ) (at : ℕ) (then : Then ℕ)
    → with_long (long_bytes n ++ rest) at then ≡ then n rest (at + 8)
long_again n lt rest at then = ap (λ m. then m rest (at + 8)) (from_le_bytes-to_le_bytes_8 n lt)

pub field_again : (test : ℕ → Bool) (n : ℕ) → n < 2 ^ 32 → test n ≡ true → (rest : List ℕ) (at : ℕ) (then : Then ℕ)
    → with_field test (word_bytes n ++ rest) at then ≡ then n rest (at + 4)
field_again test n lt t rest at then =
    word_again n lt rest at (λ m rest next. wanted (test m) (fault.Field at) (then m rest next)) ∙ rw t refl

-- ---- numbers

-- a mark and a long that spell a number
spelled_number : (f : CodeFault) (mark m : ℕ) (n : ℤ) → m < 2 ^ 64 → number_of mark m ≡ Some n
    → (rest : List ℕ) (at : ℕ) (then : Then ℤ)
    → with_number f (mark ∷ (long_bytes m ++ rest)) at then ≡ then n rest (at + 9)
spelled_number f mark m n lt is rest at then =
    ap (λ k. if_number (number_of mark k) f (λ x. then x rest (at + 9))) (from_le_bytes-to_le_bytes_8 m lt)
    ∙ ap (λ o. if_number o f (λ x. then x rest (at + 9))) is

pub number_again : (f : CodeFault) (n : ℤ) → is_number n ≡ true → (rest : List ℕ) (at : ℕ) (then : Then ℤ)
    → with_number f (number_bytes n ++ rest) at then ≡ then n rest (at + 9)
number_again f (pos n) h rest at then = go (nat_lt n (2 ^ 63)) refl
  where
    few : n < 2 ^ 64
    few = let le = leb-true n (2 ^ 64 - 1) h in omega (arith, le)

    go : (b : Bool) → nat_lt n (2 ^ 63) ≡ b
        → with_number f (cond b 0 1 ∷ (long_bytes n ++ rest)) at then ≡ then (pos n) rest (at + 9)
    go true e = spelled_number f 0 n (pos n) few (rw e refl) rest at then
    go false e =
        spelled_number f 1 n (pos n) few (rw (le-leb (2 ^ 63) n (ltb-false n (2 ^ 63) e)) refl) rest at then
number_again f (negsuc n) h rest at then =
    let few = leb-true n (2 ^ 63 - 1) (and-both (nat_le n (2 ^ 63 - 1)) true h).0 in
    let high : nat_lt (2 ^ 64 - 1 - n) (2 ^ 63) ≡ false = le-ltb (2 ^ 64 - 1 - n) (2 ^ 63) (omega (arith, few)) in
    let back : 2 ^ 64 - 1 - (2 ^ 64 - 1 - n) ≡ n = omega (arith, few) in
    spelled_number f 0 (2 ^ 64 - 1 - n) (negsuc n) (omega arith) (rw (high, back) refl) rest at then

pub type_again : (f : CodeFault) (t : IntType) (rest : List ℕ) (at : ℕ) (then : Then IntType)
    → with_type f (type_code t ∷ rest) at then ≡ then t rest (at + 1)
type_again f t rest at then = rw (type_at t) refl

-- ---- operations

head : (w : ℕ) (ws : List ℕ) → FitWords (w ∷ ws) → w < 2 ^ 32
head w ws h = h 0 0 (omega arith)

second : (w v : ℕ) → FitWords (w ∷ v ∷ []) → v < 2 ^ 32
second w v h = h 1 0 (omega arith)

-- fields behind the byte of an operation
word_op : (o : ℕ → Op) (w : ℕ) → w < 2 ^ 32 → (rest : List ℕ) (at : ℕ) (then : Then Op)
    → with_word (word_bytes w ++ rest) (at + 1) (λ w. then (o w)) ≡ then (o w) rest (at + 5)
word_op o w lt rest at then =
    word_again w lt rest (at + 1) (λ w. then (o w)) ∙ ap (then (o w) rest) (omega arith)

words_op : (o : ℕ → ℕ → Op) (w v : ℕ) → w < 2 ^ 32 → v < 2 ^ 32 → (rest : List ℕ) (at : ℕ) (then : Then Op)
    → with_word (word_bytes w ++ (word_bytes v ++ rest)) (at + 1)
    (λ w rest next. with_word rest next (λ v. then (o w v))) ≡ then (o w v) rest (at + 9)
words_op o w v lt few rest at then =
    word_again w lt (word_bytes v ++ rest) (at + 1) (λ w rest next. with_word rest next (λ v. then (o w v)))
    ∙ (word_again v few rest (at + 1 + 4) (λ v. then (o w v)) ∙ ap (then (o w v) rest) (omega arith))

type_op : (f : CodeFault) (o : IntType → Op) (t : IntType) (rest : List ℕ) (at : ℕ) (then : Then Op)
    → with_type f (type_code t ∷ rest) (at + 1) (λ t. then (o t)) ≡ then (o t) rest (at + 2)
type_op f o t rest at then =
    type_again f t rest (at + 1) (λ t. then (o t)) ∙ ap (then (o t) rest) (omega arith)

at_op : (f : CodeFault) (o : IntType → ℕ → Op) (t : IntType) (w : ℕ) → w < 2 ^ 32 → (rest : List ℕ) (at : ℕ)
    (then : Then Op)
    → with_type f (type_code t ∷ (word_bytes w ++ rest)) (at + 1)
    (λ t rest next. with_word rest next (λ w. then (o t w))) ≡ then (o t w) rest (at + 6)
at_op f o t w lt rest at then =
    type_again f t (word_bytes w ++ rest) (at + 1) (λ t rest next. with_word rest next (λ w. then (o t w)))
    ∙ (word_again w lt rest (at + 1 + 1) (λ w. then (o t w)) ∙ ap (then (o t w) rest) (omega arith))

number_op : (f : CodeFault) (o : ℤ → Op) (n : ℤ) → is_number n ≡ true → (rest : List ℕ) (at : ℕ) (then : Then Op)
    → with_number f (number_bytes n ++ rest) (at + 1) (λ n. then (o n)) ≡ then (o n) rest (at + 10)
number_op f o n h rest at then =
    number_again f n h rest (at + 1) (λ n. then (o n)) ∙ ap (then (o n) rest) (omega arith)

case_op : (f : CodeFault) (n : ℤ) (w : ℕ) → is_number n ≡ true → w < 2 ^ 32 → (rest : List ℕ) (at : ℕ)
    (then : Then Op)
    → with_number f ((number_bytes n ++ word_bytes w) ++ rest) (at + 1)
    (λ n rest next. with_word rest next (λ w. then (op.CaseJump n w))) ≡ then (op.CaseJump n w) rest (at + 14)
case_op f n w h lt rest at then =
    ap (λ (l : List ℕ). with_number f l (at + 1) (λ n rest next. with_word rest next (λ w. then (op.CaseJump n w))))
    (append_assoc (number_bytes n) (word_bytes w) rest)
    ∙ (number_again f n h (word_bytes w ++ rest) (at + 1)
    (λ n rest next. with_word rest next (λ w. then (op.CaseJump n w)))
    ∙ (word_again w lt rest (at + 1 + 9) (λ w. then (op.CaseJump n w))
    ∙ ap (then (op.CaseJump n w) rest) (omega arith)))

nine : (n : ℤ) → length (number_bytes n) ≡ 9
nine (pos n) = refl
nine (negsuc n) = refl

-- how many bytes an operation has
abbrev pub op_size : Op → ℕ
op_size o = length (op_bytes o)

pub op_again : (o : Op) → number_there o ≡ true → FitWords (words_of (fields_of o)) → (rest : List ℕ) (at : ℕ)
    (then : Then Op) → with_op (op_bytes o ++ rest) at then ≡ then o rest (at + op_size o)
op_again (op.Push m) n h rest at then =
    number_op (fault.Opcode at) (λ m. op.Push m) m n rest at then
    ∙ ap (then (op.Push m) rest) (let l = nine m in omega (arith, l))
op_again op.Dup n h rest at then = refl
op_again op.Drop n h rest at then = refl
op_again op.Swap n h rest at then = refl
op_again op.Over n h rest at then = refl
op_again (op.Convert t) n h rest at then = type_op (fault.Opcode at) (λ t. op.Convert t) t rest at then
op_again op.Not n h rest at then = refl
op_again (op.LoadLocal w) n h rest at then =
    word_op (λ w. op.LoadLocal w) w (head w [] h) rest at then
op_again (op.StoreLocal w) n h rest at then =
    word_op (λ w. op.StoreLocal w) w (head w [] h) rest at then
op_again (op.LoadGlobal w) n h rest at then =
    word_op (λ w. op.LoadGlobal w) w (head w [] h) rest at then
op_again (op.StoreGlobal w) n h rest at then =
    word_op (λ w. op.StoreGlobal w) w (head w [] h) rest at then
op_again (op.CheckIndex w v) n h rest at then =
    words_op (λ w v. op.CheckIndex w v) w v (head w (v ∷ []) h) (second w v h) rest at then
op_again (op.LoadLocalAt w v) n h rest at then =
    words_op (λ w v. op.LoadLocalAt w v) w v (head w (v ∷ []) h) (second w v h) rest at then
op_again (op.StoreLocalAt w v) n h rest at then =
    words_op (λ w v. op.StoreLocalAt w v) w v (head w (v ∷ []) h) (second w v h) rest at then
op_again (op.LoadGlobalAt w v) n h rest at then =
    words_op (λ w v. op.LoadGlobalAt w v) w v (head w (v ∷ []) h) (second w v h) rest at then
op_again (op.StoreGlobalAt w v) n h rest at then =
    words_op (λ w v. op.StoreGlobalAt w v) w v (head w (v ∷ []) h) (second w v h) rest at then
op_again (op.Mul t line) n h rest at then =
    at_op (fault.Opcode at) (λ t line. op.Mul t line) t line (head line [] h) rest at then
op_again (op.Div t line) n h rest at then =
    at_op (fault.Opcode at) (λ t line. op.Div t line) t line (head line [] h) rest at then
op_again (op.Rem t line) n h rest at then =
    at_op (fault.Opcode at) (λ t line. op.Rem t line) t line (head line [] h) rest at then
op_again (op.Add t line) n h rest at then =
    at_op (fault.Opcode at) (λ t line. op.Add t line) t line (head line [] h) rest at then
op_again (op.Sub t line) n h rest at then =
    at_op (fault.Opcode at) (λ t line. op.Sub t line) t line (head line [] h) rest at then
op_again (op.Shl t line) n h rest at then =
    at_op (fault.Opcode at) (λ t line. op.Shl t line) t line (head line [] h) rest at then
op_again (op.Shr t line) n h rest at then =
    at_op (fault.Opcode at) (λ t line. op.Shr t line) t line (head line [] h) rest at then
op_again (op.Less t line) n h rest at then =
    at_op (fault.Opcode at) (λ t line. op.Less t line) t line (head line [] h) rest at then
op_again (op.Greater t line) n h rest at then =
    at_op (fault.Opcode at) (λ t line. op.Greater t line) t line (head line [] h) rest at then
op_again (op.LessEqual t line) n h rest at then =
    at_op (fault.Opcode at) (λ t line. op.LessEqual t line) t line (head line [] h) rest at then
op_again (op.GreaterEqual t line) n h rest at then =
    at_op (fault.Opcode at) (λ t line. op.GreaterEqual t line) t line (head line [] h) rest at then
op_again (op.Equal t line) n h rest at then =
    at_op (fault.Opcode at) (λ t line. op.Equal t line) t line (head line [] h) rest at then
op_again (op.NotEqual t line) n h rest at then =
    at_op (fault.Opcode at) (λ t line. op.NotEqual t line) t line (head line [] h) rest at then
op_again (op.And t line) n h rest at then =
    at_op (fault.Opcode at) (λ t line. op.And t line) t line (head line [] h) rest at then
op_again (op.Xor t line) n h rest at then =
    at_op (fault.Opcode at) (λ t line. op.Xor t line) t line (head line [] h) rest at then
op_again (op.Or t line) n h rest at then =
    at_op (fault.Opcode at) (λ t line. op.Or t line) t line (head line [] h) rest at then
op_again (op.Minus t line) n h rest at then =
    at_op (fault.Opcode at) (λ t line. op.Minus t line) t line (head line [] h) rest at then
op_again (op.Complement t line) n h rest at then =
    at_op (fault.Opcode at) (λ t line. op.Complement t line) t line (head line [] h) rest at then
op_again op.GetChar n h rest at then = refl
op_again (op.PutChar w) n h rest at then =
    word_op (λ w. op.PutChar w) w (head w [] h) rest at then
op_again (op.Jump w) n h rest at then =
    word_op (λ w. op.Jump w) w (head w [] h) rest at then
op_again (op.Back w) n h rest at then =
    word_op (λ w. op.Back w) w (head w [] h) rest at then
op_again (op.IfZero w) n h rest at then =
    word_op (λ w. op.IfZero w) w (head w [] h) rest at then
op_again (op.IfNot w) n h rest at then =
    word_op (λ w. op.IfNot w) w (head w [] h) rest at then
op_again (op.CaseJump m w) n h rest at then =
    case_op (fault.Opcode at) m w n (head w [] h) rest at then
    ∙ ap (then (op.CaseJump m w) rest)
    (let l = nine m in let j = length-append (number_bytes m) (word_bytes w) in omega (arith, l, j))
op_again (op.Call w v) n h rest at then =
    words_op (λ w v. op.Call w v) w v (head w (v ∷ []) h) (second w v h) rest at then
op_again op.Return n h rest at then = refl
op_again op.Exit n h rest at then = refl
op_again (op.Count w) n h rest at then =
    word_op (λ w. op.Count w) w (head w [] h) rest at then
op_again op.PathBegin n h rest at then = refl
op_again (op.PathPass w) n h rest at then =
    word_op (λ w. op.PathPass w) w (head w [] h) rest at then
