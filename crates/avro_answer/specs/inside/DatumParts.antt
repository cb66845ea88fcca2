-- The parts of the text of a datum, before its display and after it.
use Rattle.std.specs.Prelude.{ℕ, List, ◌++◌, codes}
use Rattle.avro_certificate.specs.CertificateText.{decimal}
use Rattle.avro_answer.specs.declared.form.Form.{Form}

-- what is before the length of its encoding
abbrev pub before_of : Form → List ℕ
before_of Form.Text = codes "bytes "
before_of Form.Json = codes "{\"bytes\":"

-- what is between that and the display
abbrev pub between_of : Form → List ℕ
between_of Form.Text = codes "\ndatum "
between_of Form.Json = codes ",\"datum\":"

-- all that is before the display
abbrev pub head_of : Form → ℕ → List ℕ
head_of form len = before_of form ++ decimal len ++ between_of form

-- what is after it
abbrev pub tail_of : Form → List ℕ
tail_of Form.Text = codes "\n"
tail_of Form.Json = codes "}\n"

-- the text of a datum by its display
abbrev pub text_around : Form → List ℕ → ℕ → List ℕ
text_around form display len = head_of form len ++ display ++ tail_of form
