-- How uploads are written. Assumes nothing.
--     text_of f i      a record of the form f with the identifier i
--     upload_front     what stands before the records
--     upload_of f ks   an upload of a record of the form f for each of the keys ks
use Rattle.std.specs.Prelude.{ℕ, List, [], ◌++◌, codes}
use Rattle.std.specs.List.{flat_map}
use Rattle.std.specs.Option.{option_map_or}
use Rattle.bench_receiving.specs.declared.texts.Form.{Form}
use Rattle.register.specs.declared.key.Key.{Key}

abbrev pub text_of : Form → List ℕ → List ℕ
text_of f i = f.front.now ++ (i ++ (option_map_or (λ o. o.now ++ i) f.origin [] ++ f.back.now))

abbrev pub upload_front : List ℕ
upload_front = codes "<?xml version=\"1.0\" encoding=\"Big5\"?><RECS>"

abbrev pub upload_of : Form → List Key → List ℕ
upload_of f ks = upload_front ++ (flat_map (λ k. text_of f k.identifier) ks ++ codes "</RECS>")
