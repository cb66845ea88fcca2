-- What `avro history --confirm` answers, by whether there is a certificate for each schema that is closed for it and the last one.
use Rattle.std.specs.Prelude.{◌≡◌, ℕ, Bool, true, false, List, codes}
use Rattle.avro_answer.specs.JsonAnswer.{confirmed_tree, json_line}
use Rattle.avro_answer.specs.declared.form.Form.{Form}

pub record TellsConfirmed (confirmed : Bool) (form : Form) (text : List ℕ) (status : ℕ) : Type 0 where
  pub good : confirmed ≡ true → status ≡ 0
  pub bad : confirmed ≡ false → status ≡ 1
  pub yes : form ≡ Form.Text → confirmed ≡ true → text ≡ codes "confirmed\n"
  pub no : form ≡ Form.Text → confirmed ≡ false → text ≡ codes "not confirmed\n"
  pub json : form ≡ Form.Json → text ≡ json_line (confirmed_tree confirmed)
