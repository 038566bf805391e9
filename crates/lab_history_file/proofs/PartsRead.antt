-- The parts of a history are read as what the table of the format says, and as nothing else.
use Rattle.std.{proofs.{Common.{◌≡◌, ℕ, ◌≤◌, ◌==◌, Bool, true, false, [], ◌∷◌, length, Option, Some, None, Ok, Err, codes, option_and_then, if◌then◌else◌, bytes_eq, refl, sym, ap, subst, ◌∙◌, eqb-true}, lemmas.Slice.Eq.{bytes_eq-Decides}}, specs.Prelude.{⊤}}
use Rattle.std.specs.FinMap as finite
use Rattle.serde_json.specs.{Data.{Data, string}, Find.{as_str}}
use Rattle.lab_history.{specs.{Faults.{◌>>=◌, required}, History.{History}}, proofs.Steps.{both_ok, both_some, step_on, required_ok, when_found}}
use Rattle.lab_history_file.specs.{Behind.{AllStand, Stands}, Entries.{values_in, installed_in}, FileVersion.{version_number}, FileOf.{HoldsIn}, Keys.{root_keys, object_with}, Format.{format_in, numbered_version, version_in, keyed, txns_in, parts_in}, declared.file_version.FileVersion.{FileVersion, TheVariants.{One, Two}}}
use Rattle.lab_history.specs.declared.fault.FileFault.TheVariants as fault
use Rattle.lab_history.specs.declared.path.ListPlace.TheVariants as list
use Rattle.lab_history.specs.declared.path.Path.TheVariants as path
use Rattle.lab_history_file.proofs.{JsonShapes.{string_of, keyed_shape}, ListsRead.{map_again}, EntriesRead.{values_read, values_are_read, installed_list_read, installed_list_is_read}, TransactionsRead.{list_read, list_is_read}}

-- the parts of a history stand in a value of either version, where each transaction may stand behind those before it
abbrev pub Holds : Data → History → Type 0
Holds d h = (version : FileVersion) × HoldsIn version d h × AllStand Stands [] h.txns × (length h.txns ≤ 1000)

format_named : (d : Data) (u : ⊤) → option_and_then (λ text. if bytes_eq text (codes "hermitage-history") then Some tt else None) (as_str d) ≡ Some u → d ≡ string (codes "hermitage-history")
format_named d u e =
    let text = both_some (as_str d) _ u e in
    string_of d text.0 text.1 ∙ ap (λ t. string t) ((bytes_eq-Decides text.0 _).0 (when_found _ tt u text.2).0)

-- a number that is read as a version is its number
numbered : (version : FileVersion) (n : ℕ) → numbered_version n ≡ Ok version → n ≡ version_number version
numbered version n e = by (n == 1) (n == 2) (eqb-true n 1) (eqb-true n 2) e
  where
    by : (one two : Bool) → (one ≡ true → n ≡ 1) → (two ≡ true → n ≡ 2) → (if one then Ok One else if two then Ok Two else Err (fault.WrongVersion n)) ≡ Ok version → n ≡ version_number version
    by true two first second e = let same : One ≡ version = cc in first refl ∙ ap version_number same
    by false true first second e = let same : Two ≡ version = cc in second refl ∙ ap version_number same
    by false false first second e = absurd cc

number_read : (version : FileVersion) (o : Option ℕ) → (required path.Version o >>= numbered_version) ≡ Ok version → o ≡ Some (version_number version)
number_read version o e =
    let found = both_ok (required path.Version o) numbered_version version e in
    required_ok path.Version o found.0 found.1 ∙ ap (λ n. Some n) (numbered version found.0 found.2)

number_is_read : (version : FileVersion) → numbered_version (version_number version) ≡ Ok version
number_is_read One = refl
number_is_read Two = refl

tree_read : (end format initial installed transactions number : Data) (h : History) → parts_in (object_with root_keys (end ∷ format ∷ initial ∷ installed ∷ transactions ∷ number ∷ [])) ≡ Ok h
    → Holds (object_with root_keys (end ∷ format ∷ initial ∷ installed ∷ transactions ∷ number ∷ [])) h
tree_read end format initial installed transactions number h e =
    let named = both_ok (format_in (object_with root_keys (end ∷ format ∷ initial ∷ installed ∷ transactions ∷ number ∷ []))) _ h e in
    let versioned = both_ok (version_in (object_with root_keys (end ∷ format ∷ initial ∷ installed ∷ transactions ∷ number ∷ []))) _ h named.2 in
    let version = versioned.0 in
    let begun = both_ok (values_in version list.Initial initial) _ h versioned.2 in
    let txns = both_ok (txns_in version transactions) _ h begun.2 in
    let those = both_ok (installed_in version installed) _ h txns.2 in
    let ended = both_ok (values_in version list.End end) _ h those.2 in
    let made : History = record { initial = finite.from_sorted begun.0; txns = txns.0; installed = finite.from_sorted those.0; end_table = finite.from_sorted ended.0 } in
    let same : made ≡ h = cc in
    let are = list_read version transactions txns.0 txns.1 in
    let spelled = format_named format named.0 (required_ok path.Format _ named.0 named.1) in
    let holds : HoldsIn version (object_with root_keys (end ∷ format ∷ initial ∷ installed ∷ transactions ∷ number ∷ [])) made = record {
      initial = initial;
      transactions = transactions;
      installed = installed;
      end = end;
      number = number;
      tree = ap (λ f. object_with root_keys (end ∷ f ∷ initial ∷ installed ∷ transactions ∷ number ∷ [])) spelled;
      number_is = number_read version _ versioned.1;
      initial_is = values_read version list.Initial initial begun.0 begun.1;
      transactions_are = are.0;
      installed_is = installed_list_read version installed those.0 those.1;
      end_is = values_read version list.End end ended.0 ended.1;
    } in
    subst (Holds (object_with root_keys (end ∷ format ∷ initial ∷ installed ∷ transactions ∷ number ∷ []))) same (version, holds, are.1, are.2)

shaped_read : (d end format initial installed transactions number : Data) (h : History) → d ≡ object_with root_keys (end ∷ format ∷ initial ∷ installed ∷ transactions ∷ number ∷ []) → parts_in d ≡ Ok h → Holds d h
shaped_read d end format initial installed transactions number h is e =
    subst (λ t. Holds t h) (sym is) (tree_read end format initial installed transactions number h (subst (λ t. parts_in t ≡ Ok h) is e))

-- parts that are read stand in the value
pub parts_read : (d : Data) (h : History) → parts_in d ≡ Ok h → Holds d h
parts_read d h e =
    let named = both_ok (format_in d) _ h e in
    let versioned = both_ok (version_in d) _ h named.2 in
    let keys = both_ok (keyed path.Root root_keys d) _ h versioned.2 in
    let shape = keyed_shape path.Root root_keys d keys.0 keys.1 in
    shaped_read d shape.0 shape.1.0 shape.1.1.0 shape.1.1.1.0 shape.1.1.1.1.0 shape.1.1.1.1.1.0 h shape.1.1.1.1.1.1 e

-- parts that stand in the value are read
pub parts_are_read : (version : FileVersion) (d : Data) (h : History) → HoldsIn version d h → AllStand Stands [] h.txns → length h.txns ≤ 1000 → parts_in d ≡ Ok h
parts_are_read version d h holds stand few =
    let made : History = record {
      initial = finite.from_sorted (finite.entries h.initial);
      txns = h.txns;
      installed = finite.from_sorted (finite.entries h.installed);
      end_table = finite.from_sorted (finite.entries h.end_table);
    } in
    let again : made ≡ h = λ i. record { initial = map_again h.initial i; txns = h.txns; installed = map_again h.installed i; end_table = map_again h.end_table i } in
    ap parts_in holds.tree
    ∙ step_on _ (ap (λ o. required path.Version o >>= numbered_version) holds.number_is ∙ number_is_read version)
    (step_on _ (values_are_read version list.Initial holds.initial h.initial holds.initial_is)
    (step_on _ (list_is_read version holds.transactions h.txns holds.transactions_are stand few)
    (step_on _ (installed_list_is_read version holds.installed h.installed holds.installed_is)
    (step_on _ (values_are_read version list.End holds.end h.end_table holds.end_is) (ap (λ (k : History). Ok k) again)))))
