-- The 31 categories of a record. Assumes nothing.
--     code_of k         the two bytes by which field M07 names a category
--     column_of k       its place among the columns of the tables of needs, as they are printed
--     in_zero to in_e   the category that a second byte names behind a first byte 0, or A to E
--     category_in bs    the category that the bytes name, if they name one
use Rattle.std.specs.Prelude.{ℕ, if◌then◌else◌, ◌==◌, List, codes, length, slice_index, Option, Some, None}
use Rattle.fields.specs.declared.category.Category.{Category}
use Rattle.fields.specs.declared.category.Category.TheVariants.{C01, C02, C03, C04, C05, C06, C07, C08, C09, AJ, AA, AB, AC, AD, AE, AF, AG, AH, AI, BA, BB, BC, BD, BE, BF, CA, DA, DB, DC, AK, EA}

abbrev pub code_of : Category → List ℕ
code_of C01 = codes "01"
code_of C02 = codes "02"
code_of C03 = codes "03"
code_of C04 = codes "04"
code_of C05 = codes "05"
code_of C06 = codes "06"
code_of C07 = codes "07"
code_of C08 = codes "08"
code_of C09 = codes "09"
code_of AJ = codes "AJ"
code_of AA = codes "AA"
code_of AB = codes "AB"
code_of AC = codes "AC"
code_of AD = codes "AD"
code_of AE = codes "AE"
code_of AF = codes "AF"
code_of AG = codes "AG"
code_of AH = codes "AH"
code_of AI = codes "AI"
code_of BA = codes "BA"
code_of BB = codes "BB"
code_of BC = codes "BC"
code_of BD = codes "BD"
code_of BE = codes "BE"
code_of BF = codes "BF"
code_of CA = codes "CA"
code_of DA = codes "DA"
code_of DB = codes "DB"
code_of DC = codes "DC"
code_of AK = codes "AK"
code_of EA = codes "EA"

abbrev pub column_of : Category → ℕ
column_of C01 = 0
column_of C02 = 1
column_of C03 = 2
column_of C04 = 3
column_of C05 = 4
column_of C06 = 5
column_of C07 = 6
column_of C08 = 7
column_of C09 = 8
column_of AJ = 9
column_of AA = 10
column_of AB = 11
column_of AC = 12
column_of AD = 13
column_of AE = 14
column_of AF = 15
column_of AG = 16
column_of AH = 17
column_of AI = 18
column_of BA = 19
column_of BB = 20
column_of BC = 21
column_of BD = 22
column_of BE = 23
column_of BF = 24
column_of CA = 25
column_of DA = 26
column_of DB = 27
column_of DC = 28
column_of AK = 29
column_of EA = 30

abbrev pub in_zero : ℕ → Option Category
in_zero b =
    if b == 49 then Some C01 else (if b == 50 then Some C02 else (if b == 51 then Some C03 else (if b == 52 then Some C04 else (
    if b == 53 then Some C05 else (if b == 54 then Some C06 else (if b == 55 then Some C07 else (if b == 56 then Some C08 else (
    if b == 57 then Some C09 else None))))))))

abbrev pub in_a : ℕ → Option Category
in_a b =
    if b == 65 then Some AA else (if b == 66 then Some AB else (if b == 67 then Some AC else (if b == 68 then Some AD else (
    if b == 69 then Some AE else (if b == 70 then Some AF else (if b == 71 then Some AG else (if b == 72 then Some AH else (
    if b == 73 then Some AI else (if b == 74 then Some AJ else (if b == 75 then Some AK else None))))))))))

abbrev pub in_b : ℕ → Option Category
in_b b =
    if b == 65 then Some BA else (if b == 66 then Some BB else (if b == 67 then Some BC else (if b == 68 then Some BD else (
    if b == 69 then Some BE else (if b == 70 then Some BF else None)))))

abbrev pub in_c : ℕ → Option Category
in_c b =
    if b == 65 then Some CA else None

abbrev pub in_d : ℕ → Option Category
in_d b =
    if b == 65 then Some DA else (if b == 66 then Some DB else (if b == 67 then Some DC else None))

abbrev pub in_e : ℕ → Option Category
in_e b =
    if b == 65 then Some EA else None

abbrev pub category_of : ℕ → ℕ → Option Category
category_of a b =
    if a == 48 then in_zero b else (if a == 65 then in_a b else (if a == 66 then in_b b else (
    if a == 67 then in_c b else (if a == 68 then in_d b else (if a == 69 then in_e b else None)))))

abbrev pub category_in : List ℕ → Option Category
category_in bs = if length bs == 2 then category_of (slice_index bs 0) (slice_index bs 1) else None
