-- Names, marks of what was read, files and answers, side by side, are the parts of a batch.
use Rattle.std.{proofs.{Common.{◌≡◌, ℕ, refl, sym, ap, ◌∙◌, Bool, true, false, List, [], ◌∷◌, ◌++◌, length, map, Result, Bor, arith}, lemmas.List.{Elements.{All-nil, All-cons}, Folds.{fold-map, flat_map-map}}}, specs.{Prelude.{fold, max}, List.{All, AllZip, flat_map, zip}}}
use Rattle.lab_history.specs.declared.fault.FileFault.{FileFault}
use Rattle.lab_judge.specs.{FileJudgement.{IsFileAnswer}, declared.report.Report.{Report}}
use Rattle.lab_streams.specs.declared.reporting.Wanted.{Wanted}
use Rattle.lab_commands.{specs.Batching.{Part, IsSaid, IsBatchAnswer, name_line, input_of, said_text, part_text, part_status}, proofs.GreatestNumbers.{folded_is_greatest}}

abbrev pub Answer : Type 0
Answer = Result Report FileFault

-- a name, whether the file was read, and the answer
abbrev pub Turn : Type 0
Turn = (Bor (List ℕ) × Bool) × Answer

abbrev pub text_at : Wanted → Turn → List ℕ
text_at wanted turn = part_text wanted.format turn.0.0.now turn.0.1 turn.1

abbrev pub status_at : Wanted → Turn → ℕ
status_at wanted turn = part_status wanted.requirement turn.0.1 turn.1

is_said : (wanted : Wanted) (name : List ℕ) (is_read : Bool) (bytes : List ℕ) (answer : Answer) → IsFileAnswer bytes answer
    → IsSaid wanted name (input_of is_read bytes) (said_text wanted.format name is_read answer) (part_status wanted.requirement is_read answer)
is_said wanted name true bytes answer true_of = record { answer = answer; is_true = true_of; said_is = refl; status_is = refl }
is_said wanted name false bytes answer true_of = (refl, refl)

module _ (wanted : Wanted) (F : Type 0) (bytes_of : F → List ℕ) where
  -- the files have parts, which say what is put together at each turn
  pub record HaveParts (names : List (Bor (List ℕ))) (are_read : List Bool) (files : List F) (answers : List Answer) : Type 0 where
    pub parts : List Part
    pub named : map (λ p. p.name) parts ≡ map (λ name. name.now) names
    pub read : map (λ p. p.input) parts ≡ map (λ p. input_of p.0 (bytes_of p.1)) (zip are_read files)
    pub said : All (λ p. IsSaid wanted p.name p.input p.said p.status) parts
    pub text_is : flat_map (λ p. name_line wanted.format p.name ++ p.said) parts ≡ flat_map (text_at wanted) (zip (zip names are_read) answers)
    pub status_is : map (λ p. p.status) parts ≡ map (status_at wanted) (zip (zip names are_read) answers)

  more : (name : Bor (List ℕ)) (is_read : Bool) (file : F) (answer : Answer) (names : List (Bor (List ℕ))) (are_read : List Bool) (files : List F) (answers : List Answer)
      → IsFileAnswer (bytes_of file) answer → HaveParts names are_read files answers → HaveParts (name ∷ names) (is_read ∷ are_read) (file ∷ files) (answer ∷ answers)
  more name is_read file answer names are_read files answers true_of rest =
      let part : Part = record { name = name.now; input = input_of is_read (bytes_of file); said = said_text wanted.format name.now is_read answer; status = part_status wanted.requirement is_read answer } in
      record {
        parts = part ∷ rest.parts;
        named = ap (λ ns. name.now ∷ ns) rest.named;
        read = ap (λ is. part.input ∷ is) rest.read;
        said = All-cons (λ (p : Part). IsSaid wanted p.name p.input p.said p.status) part rest.parts (is_said wanted name.now is_read (bytes_of file) answer true_of) rest.said;
        text_is = ap (λ text. part_text wanted.format name.now is_read answer ++ text) rest.text_is;
        status_is = ap (λ ss. part.status ∷ ss) rest.status_is;
      }

  pub have_parts : (names : List (Bor (List ℕ))) (are_read : List Bool) (files : List F) (answers : List Answer) → length are_read ≡ length names → length files ≡ length names
      → AllZip (λ file answer. IsFileAnswer (bytes_of file) answer) files answers → HaveParts names are_read files answers
  have_parts [] [] [] [] reads long each = record { parts = []; named = refl; read = refl; said = All-nil _; text_is = refl; status_is = refl }
  have_parts [] [] [] (a ∷ answers) reads long each = absurd each
  have_parts [] [] (f ∷ files) answers reads long each = absurd (omega (arith, long))
  have_parts [] (r ∷ are_read) files answers reads long each = absurd (omega (arith, reads))
  have_parts (n ∷ names) [] files answers reads long each = absurd (omega (arith, reads))
  have_parts (n ∷ names) (r ∷ are_read) [] answers reads long each = absurd (omega (arith, long))
  have_parts (n ∷ names) (r ∷ are_read) (f ∷ files) [] reads long each = absurd each
  have_parts (n ∷ names) (r ∷ are_read) (f ∷ files) (a ∷ answers) reads long each =
      more n r f a names are_read files answers each.0 (have_parts names are_read files answers (omega (arith, reads)) (omega (arith, long)) each.1)

  module _ {Y : Type 0} (turn : Y → Turn) (turns : List Y) (names : List (Bor (List ℕ))) (are_read : List Bool) (files : List F) (answers : List Answer) (text : List ℕ) (status : ℕ)
      (have : HaveParts names are_read files answers) (walked : map turn turns ≡ zip (zip names are_read) answers) where
    -- what is put together turn by turn is said of the files
    pub batched : text ≡ flat_map (λ y. text_at wanted (turn y)) turns → status ≡ fold (λ s y. max s (status_at wanted (turn y))) 0 turns
        → IsBatchAnswer wanted (map (λ name. name.now) names) (map (λ p. input_of p.0 (bytes_of p.1)) (zip are_read files)) text status
    batched text_is status_is =
        let greatest : status ≡ fold max 0 (map (λ p. p.status) have.parts)
        = status_is
        ∙ sym (fold-map (λ s (t : Turn). max s (status_at wanted t)) turn 0 turns)
        ∙ ap (λ ts. fold (λ s (t : Turn). max s (status_at wanted t)) 0 ts) walked
        ∙ sym (fold-map max (status_at wanted) 0 (zip (zip names are_read) answers))
        ∙ sym (ap (λ ss. fold max 0 ss) have.status_is) in
        record {
          parts = have.parts;
          named = have.named;
          read = have.read;
          said = have.said;
          text_is = text_is ∙ sym (flat_map-map (text_at wanted) turn turns) ∙ ap (λ ts. flat_map (text_at wanted) ts) walked ∙ sym have.text_is;
          status_is = folded_is_greatest (map (λ p. p.status) have.parts) status greatest;
        }
