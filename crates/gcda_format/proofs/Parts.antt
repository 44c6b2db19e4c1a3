-- The parts of a function, written one behind the other.
use Rattle.std.proofs.Common.{◌≡◌, ℕ, List, ◌++◌, ap, ◌∙◌, append_assoc}
use Rattle.gcov_items.specs.Items.{word_bytes, header_bytes}
use Rattle.gcov_records.specs.Records.{long_record}
use Rattle.gcda_format.specs.Data.{FunctionDataValue}
use Rattle.gcda_format.specs.Spelling.{function_tag, counter_tag, bit_tag, function_bytes}

-- five pieces behind what was there
joined : (o0 o1 o2 o3 o4 o5 a b c d e : List ℕ) → o1 ≡ o0 ++ a → o2 ≡ o1 ++ b → o3 ≡ o2 ++ c → o4 ≡ o3 ++ d
    → o5 ≡ o4 ++ e → o5 ≡ o0 ++ (a ++ (b ++ (c ++ (d ++ e))))
joined o0 o1 o2 o3 o4 o5 a b c d e h1 h2 h3 h4 h5 =
    h5 ∙ (ap (λ (l : List ℕ). l ++ e) h4 ∙ (append_assoc o3 d e
    ∙ (ap (λ (l : List ℕ). l ++ (d ++ e)) h3 ∙ (append_assoc o2 c (d ++ e)
    ∙ (ap (λ (l : List ℕ). l ++ (c ++ (d ++ e))) h2 ∙ (append_assoc o1 b (c ++ (d ++ e))
    ∙ (ap (λ (l : List ℕ). l ++ (b ++ (c ++ (d ++ e)))) h1 ∙ append_assoc o0 a (b ++ (c ++ (d ++ e))))))))))

pub function_put : (k : ℕ) (f : FunctionDataValue) (o0 o1 o2 o3 o4 o5 cs bs : List ℕ)
    → o1 ≡ o0 ++ header_bytes (function_tag, 8) → o2 ≡ o1 ++ word_bytes k → o3 ≡ o2 ++ word_bytes f.checksum
    → cs ≡ f.counters → o4 ≡ o3 ++ long_record counter_tag cs → bs ≡ f.bits → o5 ≡ o4 ++ long_record bit_tag bs
    → o5 ≡ o0 ++ function_bytes k f
unfolding function_bytes
function_put k f o0 o1 o2 o3 o4 o5 cs bs h1 h2 h3 same h4 alike h5 =
    joined o0 o1 o2 o3 o4 o5 (header_bytes (function_tag, 8)) (word_bytes k) (word_bytes f.checksum)
    (long_record counter_tag f.counters) (long_record bit_tag f.bits) h1 h2 h3
    (h4 ∙ ap (λ (l : List ℕ). o3 ++ long_record counter_tag l) same)
    (h5 ∙ ap (λ (l : List ℕ). o4 ++ long_record bit_tag l) alike)
