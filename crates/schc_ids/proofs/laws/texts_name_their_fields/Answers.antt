use Rattle.schc_ids.proofs.TextsLemmas.{name_of_text-text_of, text_of-name_of_text}
use Rattle.schc_ids.proofs.laws.texts_name_their_fields.Goals as goal

pub returns : goal.returns
returns c name text = (name_of_text-text_of name text, text_of-name_of_text text name)
