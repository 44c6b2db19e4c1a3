-- Bytes by their first and their last.
use Rattle.std.proofs.Common.{◌≡◌, ◌<◌, ◌-◌, refl, sym, ap, subst, ◌∙◌, ℕ, ◌&&◌, ◌==◌}
use Rattle.std.proofs.Common.{List, [], ◌∷◌, ◌++◌, length, take, get_or, not, arith, Err}
use Rattle.std.specs.List.{list_all}
use Rattle.std.specs.Char.{is_ascii_digit}
use Rattle.std.proofs.lemmas.List.{length-append}
use Rattle.gcov_records.specs.declared.fault.FileFault.TheVariants as fault
use Rattle.gcno_format.specs.Notes.{is_name_byte, is_name}
use Rattle.gcno_format.specs.Reading.{byte, is_name_string}

-- where nothing is left there is no byte
pub no_byte : (bytes : List ℕ) (at : ℕ) → length bytes < 1 → byte bytes at ≡ Err (fault.Short at)
no_byte [] at lt = refl
no_byte (b ∷ bytes) at lt = absurd (omega (arith, lt))

end_is : (text : List ℕ) (last d n : ℕ) → n ≡ length text → get_or (text ++ last ∷ []) n d ≡ last
end_is [] last d n e = ap (λ k. get_or (last ∷ []) k d) e
end_is (b ∷ text) last d n e = ap (λ k. get_or (b ∷ (text ++ last ∷ [])) k d) e ∙ end_is text last d (length text) refl

front_is : (text : List ℕ) (last n : ℕ) → n ≡ length text → take n (text ++ last ∷ []) ≡ text
front_is [] last n e = ap (λ k. take k (last ∷ [])) e
front_is (b ∷ text) last n e =
    ap (λ k. take k (b ∷ (text ++ last ∷ []))) e ∙ ap (λ (l : List ℕ). b ∷ l) (front_is text last (length text) refl)

-- a string by its text and its last byte
pub string_is : (bytes text : List ℕ) (last : ℕ) → bytes ≡ text ++ last ∷ []
    → ((last == 0) && is_name text) ≡ is_name_string bytes
string_is bytes text last e =
    subst (λ (b : List ℕ). ((last == 0) && is_name text) ≡ is_name_string b) (sym e)
    (let l = length-append text (last ∷ []) in
    let n : length (text ++ last ∷ []) - 1 ≡ length text = omega (arith, l) in
    ap (λ k. (k == 0) && is_name text) (sym (end_is text last 1 (length (text ++ last ∷ []) - 1) n))
    ∙ ap (λ (t : List ℕ). (get_or (text ++ last ∷ []) (length (text ++ last ∷ []) - 1) 1 == 0) && is_name t)
    (sym (front_is text last (length (text ++ last ∷ []) - 1) n)))

-- a name by its first byte
pub name_is : (bytes : List ℕ) (first d : ℕ) → 0 < length bytes → first ≡ get_or bytes 0 d
    → (not (is_ascii_digit first) && list_all is_name_byte bytes) ≡ is_name bytes
name_is [] first d lt e = absurd (omega (arith, lt))
name_is (b ∷ bytes) first d lt e = ap (λ k. not (is_ascii_digit k) && list_all is_name_byte (b ∷ bytes)) e
