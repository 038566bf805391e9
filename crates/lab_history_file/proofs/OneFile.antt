-- Bytes are a file of one history at most, or have one fault.
use Rattle.std.{proofs.{Common.{◌≡◌, ℕ, List, Ok, Err, sym, ap, ◌∙◌, arith}, lemmas.{Bool.{false≢true}, Option.{same_Some, none-some}}}, specs.Result.{is_ok, result_ok, result_err}}
use Rattle.serde_json.specs.Data.{Data}
use Rattle.lab_history_file.{specs.{FileRead.{IsTextOf}, Format.{history_in}, HistoryFile.{HoldsHistory, IsFormatFault, IsFileFault}}, proofs.FileIsRead.{file_is_read}}
use Rattle.lab_history.specs.{History.{History}, declared.fault.FileFault.{FileFault}}

-- bytes are the text of one value at most
one_value : (bytes : List ℕ) (c d : Data) → IsTextOf bytes c → IsTextOf bytes d → history_in c ≡ history_in d
one_value bytes c d (text, is) (again, found) = ap history_in (same_Some c d (sym is ∙ found))

-- the history that bytes hold is read of their value
read_of : (bytes : List ℕ) (h : History) (held : HoldsHistory bytes h) → history_in held.tree ≡ Ok h
read_of bytes h held = file_is_read held.held.0 held.tree h held.held.1

-- bytes are a file of one history at most
pub one_history : (bytes : List ℕ) (g h : History) → HoldsHistory bytes g → HoldsHistory bytes h → g ≡ h
one_history bytes g h first second = same_Some g h (ap result_ok (sym (read_of bytes g first) ∙ one_value bytes first.tree second.tree first.spelled second.spelled ∙ read_of bytes h second))

-- a value that gives a history has no fault
no_fault : (bytes : List ℕ) (c d : Data) (h : History) (f : FileFault) → IsTextOf bytes c → IsTextOf bytes d → history_in c ≡ Ok h → history_in d ≡ Err f → ⊥
no_fault bytes c d h f text again is faulty = false≢true (sym (ap is_ok (sym is ∙ one_value bytes c d text again ∙ faulty)))

no_format_fault : (bytes : List ℕ) (h : History) (f : FileFault) → HoldsHistory bytes h → IsFormatFault bytes f → ⊥
no_format_fault bytes h f held (IsFormatFault.no_text none is) = none-some held.tree (sym (none held.spelled.0) ∙ held.spelled.1)
no_format_fault bytes h f held (IsFormatFault.no_history tree text is) = no_fault bytes held.tree tree h f held.spelled text (read_of bytes h held) is

-- a file of a history has no fault
pub no_file_fault : (bytes : List ℕ) (h : History) (f : FileFault) → HoldsHistory bytes h → IsFileFault bytes f → ⊥
no_file_fault bytes h f held (IsFileFault.too_long long is) = let short = held.short in omega (arith, short, long)
no_file_fault bytes h f held (IsFileFault.of_format short is) = no_format_fault bytes h f held is

-- bytes have one fault at most
one_format_fault : (bytes : List ℕ) (f g : FileFault) → IsFormatFault bytes f → IsFormatFault bytes g → f ≡ g
one_format_fault bytes f g (IsFormatFault.no_text none is) (IsFormatFault.no_text again same) = is ∙ sym same
one_format_fault bytes f g (IsFormatFault.no_text none is) (IsFormatFault.no_history tree text same) = absurd (none-some tree (sym (none text.0) ∙ text.1))
one_format_fault bytes f g (IsFormatFault.no_history tree text is) (IsFormatFault.no_text none same) = absurd (none-some tree (sym (none text.0) ∙ text.1))
one_format_fault bytes f g (IsFormatFault.no_history c text is) (IsFormatFault.no_history d again same) = same_Some f g (ap result_err (sym is ∙ one_value bytes c d text again ∙ same))

pub one_fault : (bytes : List ℕ) (f g : FileFault) → IsFileFault bytes f → IsFileFault bytes g → f ≡ g
one_fault bytes f g (IsFileFault.too_long long is) (IsFileFault.too_long over same) = is ∙ sym same
one_fault bytes f g (IsFileFault.too_long long is) (IsFileFault.of_format short same) = absurd (omega (arith, long, short))
one_fault bytes f g (IsFileFault.of_format short is) (IsFileFault.too_long long same) = absurd (omega (arith, long, short))
one_fault bytes f g (IsFileFault.of_format short is) (IsFileFault.of_format within same) = one_format_fault bytes f g is same
